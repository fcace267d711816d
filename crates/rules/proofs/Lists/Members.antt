-- Membership in lists of numbers. Assumes nothing.
use Prim.Native.Nat.{ℕ, zero, suc, ◌+◌, ◌<◌}
use mathlib.Core.Path.{◌≡◌, refl, sym, subst, ◌∙◌}
use mathlib.Core.Logic.{◌⊎◌, inl, inr, ◌≢◌}
use mathlib.Core.Bool.{Bool, true, false, ◌&&◌, ◌||◌}
use mathlib.Core.List.{List, [], ◌∷◌, ◌++◌, map, reverse, reverse_aux}
use native.Mathlib.Omega.{arith}
use lib.Dec.{T, eqb, eqb→eq, eqb_refl}
use lib.ListN.{length, get_or}
use Rattle.rules.specs.Lists.{mem, every, keep, insert, insert_all, distinct, count, gather, last_of, init, swap_out, swap_out_all, In, Out}

-- a test passes or fails
pub split : {P : Type 0} (b : Bool) → (b ≡ true → P) → (b ≡ false → P) → P
split true t f = t refl
split false t f = f refl

-- a test that holds is true
pub T→true : (b : Bool) → T b → b ≡ true
T→true true t = refl
T→true false t = absurd t

-- and a true one holds
pub true→T : {b : Bool} → b ≡ true → T b
true→T e = rw e tt

-- no test both passes and fails
pub true_false : {P : Type 0} {b : Bool} → b ≡ true → b ≡ false → P
true_false {P} {b} e d = absurd (let z : ◌≡◌ {A = ℕ} 0 1 = cc in omega arith)

-- a number tests equal to itself
pub eqb_same : (p : ℕ) → eqb p p ≡ true
eqb_same p = T→true (eqb p p) (eqb_refl p)

-- numbers that test equal are equal
pub eqb_true : (p q : ℕ) → eqb p q ≡ true → p ≡ q
eqb_true p q e = eqb→eq p q (true→T e)

-- numbers that don't test equal are different
pub eqb_false : (p q : ℕ) → eqb p q ≡ false → p ≢ q
eqb_false p q e d = true_false (subst (λ (x : ℕ). eqb p x ≡ true) d (eqb_same p)) e

-- where two tests pass together each passes
pub and_true : (a b : Bool) → a && b ≡ true → (a ≡ true) × (b ≡ true)
and_true true true e = (refl, refl)
and_true true false e = true_false e refl
and_true false true e = true_false e refl
and_true false false e = true_false e refl

-- where either of two tests passes, the first does or the second
pub or_true : (a b : Bool) → a || b ≡ true → (a ≡ true) ⊎ (b ≡ true)
or_true true b e = inl refl
or_true false b e = inr e

-- `mem` at a list with a head
pub in_here : (p : ℕ) (xs : List ℕ) → In p (p ∷ xs)
unfolding mem
in_here p xs = rw (eqb_same p, mem)

-- what is in the tail is in the list
pub in_there : (p x : ℕ) (xs : List ℕ) → In p xs → In p (x ∷ xs)
unfolding mem
in_there p x xs e = split (eqb p x) (λ d. rw (d, mem)) (λ d. rw (d, mem) e)

-- what is in a list is its head or in its tail
pub in_cons : (p x : ℕ) (xs : List ℕ) → In p (x ∷ xs) → (p ≡ x) ⊎ In p xs
unfolding mem
in_cons p x xs e = split (eqb p x) (λ d. inl (eqb_true p x d)) (λ d. inr (rw (d, mem) at e))

-- nothing is in the empty list
pub in_nil : {P : Type 0} (p : ℕ) → In p [] → P
unfolding mem
in_nil p e = true_false e refl

-- what is out of a list is not its head
pub out_head : (p x : ℕ) (xs : List ℕ) → Out p (x ∷ xs) → p ≢ x
out_head p x xs e d = true_false (subst (λ (y : ℕ). In p (y ∷ xs)) d (in_here p xs)) e

-- and is out of its tail
pub out_tail : (p x : ℕ) (xs : List ℕ) → Out p (x ∷ xs) → Out p xs
out_tail p x xs e = split (mem p xs) (λ d. true_false (in_there p x xs d) e) (λ d. d)

-- a head that is another number doesn't matter
pub mem_other : (q p : ℕ) (xs : List ℕ) → q ≢ p → mem q (p ∷ xs) ≡ mem q xs
unfolding mem
mem_other q p xs n = split (eqb q p) (λ e. absurd (n (eqb_true q p e))) (λ e. rw (e, mem))

-- two lists joined hold what the first holds
pub in_append_left : (p : ℕ) (xs ys : List ℕ) → In p xs → In p (xs ++ ys)
in_append_left p [] ys e = in_nil p e
in_append_left p (x ∷ xs) ys e = elim (in_cons p x xs e) [ inl d ↦ rw d (in_here x (xs ++ ys)) | inr d ↦ in_there p x (xs ++ ys) (in_append_left p xs ys d) ]

-- and what the second holds
pub in_append_right : (p : ℕ) (xs ys : List ℕ) → In p ys → In p (xs ++ ys)
in_append_right p [] ys e = e
in_append_right p (x ∷ xs) ys e = in_there p x (xs ++ ys) (in_append_right p xs ys e)

-- and nothing else
pub in_append : (p : ℕ) (xs ys : List ℕ) → In p (xs ++ ys) → In p xs ⊎ In p ys
in_append p [] ys e = inr e
in_append p (x ∷ xs) ys e = elim (in_cons p x (xs ++ ys) e) [
  | inl d ↦ inl (rw d (in_here x xs))
  | inr d ↦ elim (in_append p xs ys d) [ inl c ↦ inl (in_there p x xs c) | inr c ↦ inr c ]
]

-- different pins, one in and one out
pub in_out : (p q : ℕ) (xs : List ℕ) → In p xs → Out q xs → p ≢ q
in_out p q xs e d c = true_false (rw c at e) d

-- reversed onto another list, both keep their entries
pub in_reverse_aux : (p : ℕ) (xs ys : List ℕ) → In p xs ⊎ In p ys → In p (reverse_aux xs ys)
in_reverse_aux p [] ys (inl e) = in_nil p e
in_reverse_aux p [] ys (inr e) = e
in_reverse_aux p (x ∷ xs) ys (inl e) = elim (in_cons p x xs e) [
  | inl d ↦ in_reverse_aux p xs (x ∷ ys) (inr (rw d (in_here x ys)))
  | inr d ↦ in_reverse_aux p xs (x ∷ ys) (inl d)
]
in_reverse_aux p (x ∷ xs) ys (inr e) = in_reverse_aux p xs (x ∷ ys) (inr (in_there p x ys e))

-- a reversed list keeps its entries
pub in_reverse : (p : ℕ) (xs : List ℕ) → In p xs → In p (reverse xs)
in_reverse p xs e = in_reverse_aux p xs [] (inl e)

-- an entry that passes is kept
pub in_keep : (f : ℕ → Bool) (p : ℕ) (xs : List ℕ) → In p xs → f p ≡ true → In p (keep f xs)
unfolding keep
in_keep f p [] e d = e
in_keep f p (x ∷ xs) e d = elim (in_cons p x xs e) [
  | inl c ↦ let fx : f x ≡ true = rw c at d in rw (fx, keep) (rw c (in_here x (keep f xs)))
  | inr c ↦ split (f x) (λ b. rw (b, keep) (in_there p x (keep f xs) (in_keep f p xs c d))) (λ b. rw (b, keep) (in_keep f p xs c d))
]

-- what is kept was there, and passes
pub keep_in : (f : ℕ → Bool) (p : ℕ) (xs : List ℕ) → In p (keep f xs) → In p xs × (f p ≡ true)
unfolding keep
keep_in f p [] e = in_nil p e
keep_in f p (x ∷ xs) e = split (f x)
    (λ b. elim (in_cons p x (keep f xs) (rw (b, keep) at e)) [
      | inl c ↦ (rw c (in_here x xs), rw c b)
      | inr c ↦ (in_there p x xs (keep_in f p xs c).0, (keep_in f p xs c).1)
    ])
    (λ b. let h : In p (keep f xs) = rw (b, keep) at e in (in_there p x xs (keep_in f p xs h).0, (keep_in f p xs h).1))

-- what is put behind a list is in it
pub in_insert : (p : ℕ) (xs : List ℕ) → In p (insert p xs)
unfolding insert
in_insert p xs = split (mem p xs) (λ e. rw (e, insert) e) (λ e. rw (e, insert) (in_append_right p xs (p ∷ []) (in_here p [])))

-- putting one behind loses none
pub in_insert_old : (q p : ℕ) (xs : List ℕ) → In q xs → In q (insert p xs)
unfolding insert
in_insert_old q p xs d = split (mem p xs) (λ e. rw (e, insert) d) (λ e. rw (e, insert) (in_append_left q xs (p ∷ []) d))

-- putting several behind loses none
pub in_insert_all_old : (q : ℕ) (ps xs : List ℕ) → In q xs → In q (insert_all ps xs)
unfolding insert_all
in_insert_all_old q [] xs d = d
in_insert_all_old q (p ∷ ps) xs d = in_insert_all_old q ps (insert p xs) (in_insert_old q p xs d)

-- and each of them is in the list then
pub in_insert_all : (q : ℕ) (ps xs : List ℕ) → In q ps → In q (insert_all ps xs)
unfolding insert_all
in_insert_all q [] xs d = in_nil q d
in_insert_all q (p ∷ ps) xs d = elim (in_cons q p ps d) [
  | inl c ↦ in_insert_all_old q ps (insert p xs) (rw c (in_insert p xs))
  | inr c ↦ in_insert_all q ps (insert p xs) c
]

-- taking each number once loses none
pub in_distinct : (q : ℕ) (xs : List ℕ) → In q xs → In q (distinct xs)
unfolding distinct
in_distinct q xs e = in_insert_all q xs [] e

-- what one entry gives is gathered
pub in_gather : (f : ℕ → List ℕ) (q p : ℕ) (xs : List ℕ) → In p xs → In q (f p) → In q (gather f xs)
unfolding gather
in_gather f q p [] e d = in_nil p e
in_gather f q p (x ∷ xs) e d = elim (in_cons p x xs e) [
  | inl c ↦ in_append_left q (f x) (gather f xs) (rw c at d)
  | inr c ↦ in_append_right q (f x) (gather f xs) (in_gather f q p xs c d)
]

-- what is out of two lists is out of both joined
pub out_append : (p : ℕ) (xs ys : List ℕ) → Out p xs → Out p ys → Out p (xs ++ ys)
out_append p xs ys d e = split (mem p (xs ++ ys)) (λ c. elim (in_append p xs ys c) [ inl b ↦ true_false b d | inr b ↦ true_false b e ]) (λ c. c)

-- the other way round
pub insert_in : (q p : ℕ) (xs : List ℕ) → In q (insert p xs) → (q ≡ p) ⊎ In q xs
unfolding insert
insert_in q p xs e = split (mem p xs) (λ d. inr (rw (d, insert) at e))
    (λ d. elim (in_append q xs (p ∷ []) (rw (d, insert) at e)) [ inl c ↦ inr c | inr c ↦ elim (in_cons q p [] c) [ inl b ↦ inl b | inr b ↦ in_nil q b ] ])

-- what is in a list after several were put behind is one of them, or was there
pub insert_all_in : (q : ℕ) (ps xs : List ℕ) → In q (insert_all ps xs) → In q ps ⊎ In q xs
unfolding insert_all
insert_all_in q [] xs e = inr e
insert_all_in q (p ∷ ps) xs e = elim (insert_all_in q ps (insert p xs) e) [
  | inl d ↦ inl (in_there q p ps d)
  | inr d ↦ elim (insert_in q p xs d) [ inl c ↦ inl (rw c (in_here p ps)) | inr c ↦ inr c ]
]

-- taking each number once adds none
pub distinct_in : (q : ℕ) (xs : List ℕ) → In q (distinct xs) → In q xs
unfolding distinct
distinct_in q xs e = elim (insert_all_in q xs [] e) [ inl d ↦ d | inr d ↦ in_nil q d ]

-- what is gathered comes from some entry
pub gather_in : (f : ℕ → List ℕ) (q : ℕ) (xs : List ℕ) → In q (gather f xs) → (p : ℕ) × In p xs × In q (f p)
unfolding gather
gather_in f q [] e = in_nil q e
gather_in f q (x ∷ xs) e = elim (in_append q (f x) (gather f xs) e) [
  | inl d ↦ (x, in_here x xs, d)
  | inr d ↦ let h = gather_in f q xs d in (h.0, in_there h.0 x xs h.1, h.2)
]

-- what stands at a place of a list is in it
pub in_get_or : (xs : List ℕ) (i d : ℕ) → i < length xs → In (get_or xs i d) xs
in_get_or [] i d h = absurd (omega arith)
in_get_or (x ∷ xs) zero d h = in_here x xs
in_get_or (x ∷ xs) (suc i) d h = in_there (get_or xs i d) x xs (in_get_or xs i d (omega arith))

-- what is in a list stands at some place of it
pub get_or_in : (xs : List ℕ) (d q : ℕ) → In q xs → (i : ℕ) × (i < length xs) × (get_or xs i d ≡ q)
get_or_in [] d q e = in_nil q e
get_or_in (x ∷ xs) d q e = elim (in_cons q x xs e) [
  | inl c ↦ (0, omega arith, sym c)
  | inr c ↦ let h = get_or_in xs d q c in (suc h.0, omega (arith, h.1), h.2)
]

-- reversed onto another list, nothing is added
pub reverse_aux_in : (p : ℕ) (xs ys : List ℕ) → In p (reverse_aux xs ys) → In p xs ⊎ In p ys
reverse_aux_in p [] ys e = inr e
reverse_aux_in p (x ∷ xs) ys e = elim (reverse_aux_in p xs (x ∷ ys) e) [
  | inl d ↦ inl (in_there p x xs d)
  | inr d ↦ elim (in_cons p x ys d) [ inl c ↦ inl (rw c (in_here x xs)) | inr c ↦ inr c ]
]

-- a reversed list has no other entries
pub reverse_in : (p : ℕ) (xs : List ℕ) → In p (reverse xs) → In p xs
reverse_in p xs e = elim (reverse_aux_in p xs [] e) [ inl d ↦ d | inr d ↦ in_nil p d ]

-- taking out of a list adds nothing
pub map_in : (h : ℕ → ℕ) (q : ℕ) (xs : List ℕ) → In q (map h xs) → (x : ℕ) × In x xs × (q ≡ h x)
map_in h q [] e = in_nil q e
map_in h q (x ∷ xs) e = elim (in_cons q (h x) (map h xs) e) [
  | inl d ↦ (x, in_here x xs, d)
  | inr d ↦ let k = map_in h q xs d in (k.0, in_there k.0 x xs k.1, k.2)
]

-- all but the last were there before
pub init_in : (q : ℕ) (xs : List ℕ) → In q (init xs) → In q xs
unfolding init
init_in q [] e = e
init_in q (x ∷ []) e = in_nil q e
init_in q (x ∷ y ∷ ys) e = elim (in_cons q x (init (y ∷ ys)) e) [ inl d ↦ rw d (in_here x (y ∷ ys)) | inr d ↦ in_there q x (y ∷ ys) (init_in q (y ∷ ys) d) ]

-- the last of a list is in it
pub last_in : (x : ℕ) (xs : List ℕ) → In (last_of x xs) (x ∷ xs)
unfolding last_of
last_in x [] = in_here x []
last_in x (y ∷ ys) = in_there (last_of y ys) x (y ∷ ys) (last_in y ys)

last_of_lem : (x : ℕ) (xs : List ℕ) → In x xs → In (last_of x xs) xs
unfolding last_of
last_of_lem x [] e = e
last_of_lem x (y ∷ ys) e = last_in y ys

-- what is left when one is taken out was there before
pub swap_out_in : (p q : ℕ) (xs : List ℕ) → In q (swap_out p xs) → In q xs
unfolding swap_out
swap_out_in p q xs e =
    let k = map_in _ q (init xs) e in
    let i : In k.0 xs = init_in k.0 xs k.1 in
    split (eqb k.0 p) (λ b. let d : q ≡ last_of k.0 xs = rw b at k.2 in rw d (last_of_lem k.0 xs i)) (λ b. let d : q ≡ k.0 = rw b at k.2 in rw d i)

-- and so when several are
pub swap_out_all_in : (ps : List ℕ) (q : ℕ) (xs : List ℕ) → In q (swap_out_all ps xs) → In q xs
unfolding swap_out_all
swap_out_all_in [] q xs e = e
swap_out_all_in (p ∷ ps) q xs e = swap_out_in p q xs (swap_out_all_in ps q (swap_out p xs) e)

-- two lists joined: what is kept of the first, then of the second
pub keep_append : (f : ℕ → Bool) (xs ys : List ℕ) → keep f (xs ++ ys) ≡ keep f xs ++ keep f ys
unfolding keep
keep_append f [] ys = refl
keep_append f (x ∷ xs) ys = split (f x) (λ e. rw (e, keep, keep_append f xs ys)) (λ e. rw (e, keep, keep_append f xs ys))

-- where no entry passes nothing is kept
pub keep_none : (f : ℕ → Bool) (xs : List ℕ) → ((x : ℕ) → In x xs → f x ≡ false) → keep f xs ≡ []
unfolding keep
keep_none f [] h = refl
keep_none f (x ∷ xs) h = rw (h x (in_here x xs), keep) (keep_none f xs (λ y e. h y (in_there y x xs e)))

-- putting two lists behind is putting one, then the other
pub insert_all-append : (xs ys zs : List ℕ) → insert_all (xs ++ ys) zs ≡ insert_all ys (insert_all xs zs)
unfolding insert_all
insert_all-append [] ys zs = refl
insert_all-append (x ∷ xs) ys zs = insert_all-append xs ys (insert x zs)

-- two lists joined: the counts add up
pub count-append : (f : ℕ → Bool) (xs ys : List ℕ) → count f (xs ++ ys) ≡ count f xs + count f ys
unfolding count
count-append f [] ys = omega arith
count-append f (x ∷ xs) ys = split (f x) (λ e. rw (e, count) (omega (arith, count-append f xs ys))) (λ e. rw (e, count) (count-append f xs ys))

-- where all entries pass, a given one does
pub every_in : (f : ℕ → Bool) (q : ℕ) (xs : List ℕ) → every f xs ≡ true → In q xs → f q ≡ true
unfolding every
every_in f q [] e i = in_nil q i
every_in f q (x ∷ xs) e i = split (f x)
    (λ t. elim (in_cons q x xs i) [ inl d ↦ rw d t | inr d ↦ every_in f q xs (rw (t, every) at e) d ])
    (λ t. true_false e (rw (t, every)))

-- where all entries pass, so does each by its place
pub every_at : (f : ℕ → Bool) (xs : List ℕ) → every f xs ≡ true → (k : ℕ) → k < length xs → f (get_or xs k 0) ≡ true
unfolding every
every_at f [] e k h = absurd (omega arith)
every_at f (x ∷ xs) e zero h = split (f x) (λ t. t) (λ t. true_false e (rw (t, every)))
every_at f (x ∷ xs) e (suc k) h = split (f x) (λ t. every_at f xs (rw (t, every) at e) k (omega arith)) (λ t. true_false e (rw (t, every)))

-- and where each passes by its place, all do
pub at_every : (f : ℕ → Bool) (xs : List ℕ) → ((k : ℕ) → k < length xs → f (get_or xs k 0) ≡ true) → every f xs ≡ true
unfolding every
at_every f [] h = refl
at_every f (x ∷ xs) h = rw (h 0 (omega arith), every) (at_every f xs (λ k l. h (suc k) (omega arith)))

-- what says whether each entry passes says whether all do
pub every_told : (f : ℕ → Bool) (xs : List ℕ) (b : Bool) → (b ≡ true → (k : ℕ) → k < length xs → f (get_or xs k 0) ≡ true)
    → (((k : ℕ) → k < length xs → f (get_or xs k 0) ≡ true) → b ≡ true) → b ≡ every f xs
every_told f xs true to from = sym (at_every f xs (to refl))
every_told f xs false to from = split (every f xs) (λ t. from (every_at f xs t) ∙ sym t) (λ t. sym t)
