-- Lists whose entries differ: joined, kept from, and how long they are. Assumes nothing.
use Prim.Native.Nat.{ℕ, zero, suc, ◌+◌, ◌≤◌, ◌<◌}
use mathlib.Core.Path.{◌≡◌, refl, ap}
use mathlib.Core.Logic.{inl, inr}
use mathlib.Core.Bool.{Bool, true, not}
use mathlib.Core.List.{List, [], ◌∷◌, ◌++◌}
use native.Mathlib.Omega.{arith}
use lib.Dec.{eqb}
use lib.ListN.{length}
use borrow.Author.Tests.{not-true, eqb-true, eqb-false}
use Rattle.rules.specs.Lists.{mem, every, keep, up_to, In, Out}
use Rattle.rules.proofs.Lists.Members.{split, true_false, and_true, in_here, in_there, in_cons, in_nil, in_append_right, keep_in, out_append}
use Rattle.aiger_form.specs.Aag.{different}

-- no entry twice
abbrev pub Differ : List ℕ → Type 0
Differ xs = different xs ≡ true

-- the first differs from the others
pub differ_cons : (x : ℕ) (xs : List ℕ) → Differ (x ∷ xs) → Out x xs × Differ xs
unfolding different
differ_cons x xs d = let w = and_true (not (mem x xs)) (different xs) d in (not-true (mem x xs) w.0, w.1)

-- one more that is not among them
pub cons_differ : (x : ℕ) (xs : List ℕ) → Out x xs → Differ xs → Differ (x ∷ xs)
unfolding different
cons_differ x xs o d = rw (o, d)

-- what cannot be in a list is not
pub out_in : (p : ℕ) (xs : List ℕ) → (In p xs → ⊥) → Out p xs
out_in p xs h = split (mem p xs) (λ t. absurd (h t)) (λ t. t)

-- a test that each entry passes
pub in_every : (f : ℕ → Bool) (xs : List ℕ) → ((q : ℕ) → In q xs → f q ≡ true) → every f xs ≡ true
unfolding every
in_every f [] h = refl
in_every f (x ∷ xs) h = rw (h x (in_here x xs), every) (in_every f xs (λ q i. h q (in_there q x xs i)))

-- two such lists without a common entry
pub append_differ : (zs bs : List ℕ) → Differ zs → Differ bs → ((x : ℕ) → In x zs → Out x bs) → Differ (zs ++ bs)
append_differ [] bs d e h = e
append_differ (a ∷ zs) bs d e h =
    let w = differ_cons a zs d in
    cons_differ a (zs ++ bs) (out_append a zs bs w.0 (h a (in_here a zs))) (append_differ zs bs w.1 e (λ x i. h x (in_there x a zs i)))

-- the parts of such a list
pub differ_append : (zs bs : List ℕ) → Differ (zs ++ bs) → Differ bs × ((x : ℕ) → In x bs → Out x zs)
unfolding mem
differ_append [] bs d = (d, λ x i. refl)
differ_append (a ∷ zs) bs d =
    let w = differ_cons a (zs ++ bs) d in
    let h = differ_append zs bs w.1 in (
      h.0,
      λ x i. out_in x (a ∷ zs) (λ j. elim (in_cons x a zs j) [
        | inl e ↦ true_false (in_append_right a zs bs (rw e at i)) w.0
        | inr k ↦ true_false k (h.1 x i)
      ]),
    )

-- what is kept of such a list
pub keep_differ : (f : ℕ → Bool) (xs : List ℕ) → Differ xs → Differ (keep f xs)
unfolding keep
keep_differ f [] d = d
keep_differ f (x ∷ xs) d =
    let w = differ_cons x xs d in
    split (f x)
    (λ t. rw (t, keep) (cons_differ x (keep f xs) (out_in x (keep f xs) (λ i. true_false (keep_in f x xs i).0 w.0)) (keep_differ f xs w.1)))
    (λ t. rw (t, keep) (keep_differ f xs w.1))

-- the numbers of a range
pub up_to_in : (n i q : ℕ) → In q (up_to n i) → (i ≤ q) × (q < i + n)
unfolding up_to
up_to_in zero i q e = in_nil q e
up_to_in (suc n) i q e = elim (in_cons q i (up_to n (suc i)) e) [
  | inl d ↦ (omega arith, omega arith)
  | inr d ↦ let h = up_to_in n (suc i) q d in (omega (arith, h.0), omega (arith, h.1))
]

-- a number in range
pub in_up_to : (n i q : ℕ) → i ≤ q → q < i + n → In q (up_to n i)
unfolding up_to
in_up_to zero i q a b = absurd (omega arith)
in_up_to (suc n) i q a b = split (eqb q i)
    (λ t. rw (eqb-true q i t) (in_here i (up_to n (suc i))))
    (λ t. let d = eqb-false q i t in in_there q i (up_to n (suc i)) (in_up_to n (suc i) q (omega arith) (omega arith)))

-- the numbers of a range differ
pub up_to_differ : (n i : ℕ) → Differ (up_to n i)
unfolding up_to different
up_to_differ zero i = refl
up_to_differ (suc n) i = cons_differ i (up_to n (suc i)) (out_in i (up_to n (suc i)) (λ e. omega (arith, (up_to_in n (suc i) i e).0))) (up_to_differ n (suc i))

-- ---- as many as there are numbers

other : ℕ → ℕ → Bool
other q x = not (eqb x q)

all_kept : (q : ℕ) (xs : List ℕ) → Out q xs → keep (other q) xs ≡ xs
unfolding keep other mem
all_kept q [] o = refl
all_kept q (x ∷ xs) o = split (eqb x q)
    (λ t. let e : x ≡ q = eqb-true x q t in true_false (rw (← e) (in_here x xs)) o)
    (λ t. rw (t, keep) (ap (λ (r : List ℕ). x ∷ r) (all_kept q xs (out_in q xs (λ i. true_false (in_there q x xs i) o)))))

one_less : (q : ℕ) (xs : List ℕ) → Differ xs → length xs ≤ suc (length (keep (other q) xs))
unfolding keep other
one_less q [] d = omega arith
one_less q (x ∷ xs) d =
    let w = differ_cons x xs d in
    split (eqb x q)
    (λ t. let e : x ≡ q = eqb-true x q t in let k : keep (other q) xs ≡ xs = all_kept q xs (rw e at w.0) in rw (t, keep, k) (omega arith))
    (λ t. rw (t, keep) (omega (arith, one_less q xs w.1)))

smaller : (n x : ℕ) → x ≤ suc n → other (suc n) x ≡ true → x ≤ n
unfolding other
smaller n x a e = let d = eqb-false x (suc n) (not-true (eqb x (suc n)) e) in omega arith

-- different numbers from 1 to n are at most n
pub few : (n : ℕ) (xs : List ℕ) → Differ xs → ((x : ℕ) → In x xs → (0 < x) × (x ≤ n)) → length xs ≤ n
few zero [] d h = omega arith
few zero (x ∷ xs) d h = absurd (let w = h x (in_here x xs) in omega (arith, w.0, w.1))
few (suc n) xs d h =
    let k = few n (keep (other (suc n)) xs) (keep_differ (other (suc n)) xs d) (λ x i.
    let j = keep_in (other (suc n)) x xs i in
    let w = h x j.0 in
    (w.0, smaller n x w.1 j.1)) in
    omega (arith, one_less (suc n) xs d)
