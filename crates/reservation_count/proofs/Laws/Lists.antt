-- The distinct codes of a pin: in whatever order they are met, and by residue. Assumes nothing.
use Prim.Native.Nat.{ℕ, ◌+◌, ◌%◌, ◌≤◌}
use mathlib.Core.Path.{◌≡◌, refl, sym, ◌∙◌}
use mathlib.Core.Bool.{Bool, true, false}
use mathlib.Core.List.{List, [], ◌∷◌, ◌++◌, append-nil}
use native.Mathlib.Omega.{arith}
use lib.Dec.{eqb}
use lib.ListN.{length}
use Rattle.rules.specs.Lists.{mem, keep, insert, insert_all, distinct, Once, nobody}
use Rattle.rules.specs.Reservation.{Activation, codes_at}
use Rattle.rules.proofs.Lists.Members.{split, true_false, eqb_true, eqb_false, eqb_same, in_here, in_append_right, in_keep, keep_in, keep_append, in_distinct, distinct_in}
use Rattle.rules.proofs.Written.Words.{once_insert, once_insert_all}
use Rattle.rules.proofs.Stage.Last.{once_length}
use Rattle.reservation_count.specs.Chains.{newest}
use Rattle.reservation_count.specs.Walks.{residue}

-- ---- members

snoc_other : (n x : ℕ) (xs : List ℕ) → (n ≡ x → ⊥) → mem n (xs ++ (x ∷ [])) ≡ mem n xs
unfolding mem
snoc_other n x [] h = split (eqb n x) (λ e. absurd (h (eqb_true n x e))) (λ e. rw (e, mem))
snoc_other n x (y ∷ ys) h = split (eqb n y) (λ e. rw (e, mem)) (λ e. rw (e, mem) (snoc_other n x ys h))

-- an entry behind a list, once, has the members of one before it
pub mem_insert : (c x : ℕ) (cs : List ℕ) → mem c (insert x cs) ≡ mem c (x ∷ cs)
unfolding insert mem
mem_insert c x cs = split (mem x cs)
    (λ e. split (eqb c x) (λ d. let h : mem c cs ≡ true = rw (eqb_true c x d) e in rw (e, insert, d, mem) h) (λ d. rw (e, insert, d, mem)))
    (λ e. split (eqb c x)
    (λ d. let h : mem c (cs ++ (x ∷ [])) ≡ true = rw (eqb_true c x d) (in_append_right x cs (x ∷ []) (in_here x [])) in rw (e, insert, d, mem) h)
    (λ d. rw (e, insert, d, mem) (snoc_other c x cs (eqb_false c x d))))

cons_same : (c x : ℕ) (cs ds : List ℕ) → mem c cs ≡ mem c ds → mem c (x ∷ cs) ≡ mem c (x ∷ ds)
unfolding mem
cons_same c x cs ds h = split (eqb c x) (λ d. rw (d, mem)) (λ d. rw (d, mem) h)

-- no more distinct entries than entries
pub distinct_few : (xs : List ℕ) → length (distinct xs) ≤ length xs
unfolding distinct
distinct_few xs = once_length (once_insert_all xs nobody) xs (λ q i. distinct_in q xs i)

-- ---- the codes at a pin

codes_members : (p : ℕ) (ys : List Activation) (cs ds : List ℕ) → ((c : ℕ) → mem c cs ≡ mem c ds) → (c : ℕ) → mem c (codes_at p ys cs) ≡ mem c (newest p ys ds)
unfolding codes_at newest
codes_members p [] cs ds h c = h c
codes_members p (a ∷ ys) cs ds h c = split (eqb a.pin p)
    (λ e. rw (e, codes_at, newest) (codes_members p ys (insert a.code cs) (a.code ∷ ds) (λ k. mem_insert k a.code cs ∙ cons_same k a.code cs ds (h k)) c))
    (λ e. rw (e, codes_at, newest) (codes_members p ys cs ds h c))

codes_once : (p : ℕ) (ys : List Activation) {cs : List ℕ} → Once cs → Once (codes_at p ys cs)
unfolding codes_at
codes_once p [] k = k
codes_once p (a ∷ ys) {cs} k = split (eqb a.pin p) (λ e. rw (e, codes_at) (codes_once p ys (once_insert a.code k))) (λ e. rw (e, codes_at) (codes_once p ys k))

-- the distinct codes at a pin are as many as those of its chain
pub codes_count : (p : ℕ) (ys : List Activation) → length (codes_at p ys []) ≡ length (distinct (newest p ys []))
unfolding distinct
codes_count p ys =
    let m = codes_members p ys [] [] (λ c. refl) in
    let a : length (codes_at p ys []) ≤ length (distinct (newest p ys [])) = once_length (codes_once p ys nobody) (distinct (newest p ys [])) (λ q i. in_distinct q (newest p ys []) (sym (m q) ∙ i)) in
    let b : length (distinct (newest p ys [])) ≤ length (codes_at p ys []) = once_length (once_insert_all (newest p ys []) nobody) (codes_at p ys []) (λ q i. m q ∙ distinct_in q (newest p ys []) i) in
    omega arith

module _ (a : Activation) where
  -- one more activation comes first at its pin
  pub newest_same : (p : ℕ) (ys : List Activation) (cs : List ℕ) → a.pin ≡ p → newest p (ys ++ (a ∷ [])) cs ≡ a.code ∷ newest p ys cs
  unfolding newest
  newest_same p [] cs e = rw (e, eqb_same p, newest)
  newest_same p (y ∷ ys) cs e = split (eqb y.pin p) (λ b. rw (b, newest) (newest_same p ys (y.code ∷ cs) e)) (λ b. rw (b, newest) (newest_same p ys cs e))

  -- and leaves another
  pub newest_other : (p : ℕ) (ys : List Activation) (cs : List ℕ) → eqb a.pin p ≡ false → newest p (ys ++ (a ∷ [])) cs ≡ newest p ys cs
  unfolding newest
  newest_other p [] cs e = rw (e, newest)
  newest_other p (y ∷ ys) cs e = split (eqb y.pin p) (λ b. rw (b, newest) (newest_other p ys (y.code ∷ cs) e)) (λ b. rw (b, newest) (newest_other p ys cs e))

-- ---- by residue

module _ (f : ℕ → Bool) where
  keep_yes : (x : ℕ) (ys : List ℕ) → f x ≡ true → keep f (insert x ys) ≡ insert x (keep f ys)
  unfolding insert keep
  keep_yes x ys t = split (mem x ys)
      (λ e. let i : mem x (keep f ys) ≡ true = in_keep f x ys e t in rw (e, insert, i))
      (λ e.
      let o : mem x (keep f ys) ≡ false = split (mem x (keep f ys)) (λ i. true_false (keep_in f x ys i).0 e) (λ i. i) in
      rw (e, insert, o, keep_append f ys (x ∷ []), t, keep))

  keep_no : (x : ℕ) (ys : List ℕ) → f x ≡ false → keep f (insert x ys) ≡ keep f ys
  unfolding insert keep
  keep_no x ys t = split (mem x ys) (λ e. rw (e, insert)) (λ e. rw (e, insert, keep_append f ys (x ∷ []), t, keep) (append-nil (keep f ys)))

  keep_insert_all : (xs ys : List ℕ) → keep f (insert_all xs ys) ≡ insert_all (keep f xs) (keep f ys)
  unfolding insert_all keep
  keep_insert_all [] ys = refl
  keep_insert_all (x ∷ xs) ys = split (f x)
      (λ t. rw (t, keep, insert_all) (keep_insert_all xs (insert x ys) ∙ rw (keep_yes x ys t)))
      (λ t. rw (t, keep, insert_all) (keep_insert_all xs (insert x ys) ∙ rw (keep_no x ys t)))

  keep_distinct : (xs : List ℕ) → keep f (distinct xs) ≡ distinct (keep f xs)
  unfolding distinct keep
  keep_distinct xs = keep_insert_all xs []

four : (xs : List ℕ) → length xs ≡ length (keep (residue 0) xs) + length (keep (residue 1) xs) + length (keep (residue 2) xs) + length (keep (residue 3) xs)
unfolding keep residue
four [] = refl
four (x ∷ xs) = split (eqb (x % 4) 0) (λ t. let e : x % 4 ≡ 0 = eqb_true (x % 4) 0 t in rw (e, keep) (omega (arith, four xs)))
    (λ t₀. split (eqb (x % 4) 1) (λ t. let e : x % 4 ≡ 1 = eqb_true (x % 4) 1 t in rw (e, keep) (omega (arith, four xs)))
    (λ t₁. split (eqb (x % 4) 2) (λ t. let e : x % 4 ≡ 2 = eqb_true (x % 4) 2 t in rw (e, keep) (omega (arith, four xs)))
    (λ t₂. let e : x % 4 ≡ 3 = omega (arith, eqb_false (x % 4) 0 t₀, eqb_false (x % 4) 1 t₁, eqb_false (x % 4) 2 t₂) in rw (e, keep) (omega (arith, four xs)))))

-- the distinct codes are those of the four residues
pub distinct_four : (xs : List ℕ) →
    length (distinct xs) ≡ length (distinct (keep (residue 0) xs)) + length (distinct (keep (residue 1) xs)) + length (distinct (keep (residue 2) xs)) + length (distinct (keep (residue 3) xs))
distinct_four xs = rw (← keep_distinct (residue 0) xs, ← keep_distinct (residue 1) xs, ← keep_distinct (residue 2) xs, ← keep_distinct (residue 3) xs) (four (distinct xs))
