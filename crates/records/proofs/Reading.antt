-- Endpoint records, read one by one. Assumes nothing.
use Prim.Native.Nat.{ℕ, zero, suc, ◌+◌, ◌-◌, ◌≤◌, ◌<◌}
use mathlib.Core.Bool.{Bool, true, false, ◌&&◌}
use mathlib.Core.List.{List, [], ◌∷◌}
use mathlib.Core.Path.{◌≡◌, refl, sym, ap, ◌∙◌}
use native.Mathlib.Numerals.{add-one}
use native.Mathlib.Nat.{add-zero}
use native.Mathlib.Omega.{arith}
use lib.Dec.{ltb}
use lib.ListN.{length, get_or, take, drop, length-drop, length-map, drop_of_length-le, get_or-eq_default, get_or-map}
use mathlib.Core.Logic.{◌⊎◌, inl, inr}
use lib.Seq.{drop-cons, get_or-drop, get_or-take, length-take-le, drop-drop}
use borrow.Author.Tests.{lt-ltb, le-ltb}
use Rattle.rules.specs.Lists.{every}
use Rattle.rules.specs.Graph.{pin_of}
use Rattle.rules.specs.Records.{Group, Groups?, unreadable, groups, size_of, group_at, whole_at, and_then, read_from, read, endpoints_of, all_named}
use Rattle.rules.specs.Checks.{groups_right}
use Rattle.rules.proofs.Lists.Members.{split}
use Rattle.rules.proofs.Job.Kinds.{kinds, whole}
use Rattle.cells.specs.Answers.{or_zero}
use Rattle.cells.proofs.Heights.{or_zero_true, or_zero_false}
use Rattle.records.specs.Values.{known, named_by, size_at, endpoint_at, record_right}
use Rattle.rules.proofs.Bools.{and_none}

-- the kinds
pub known_none : (k : ℕ) → size_of k ≡ 0 → known k ≡ 0
unfolding known
known_none k e = rw e (or_zero_false k)

-- an unknown kind, read as 0, has size 0 as well
pub known_size : (k : ℕ) → size_of (known k) ≡ size_of k
unfolding known size_of or_zero
known_size k = kinds k (λ e. rw e) (λ e. rw e) (λ e. rw e) (λ e. rw e) (λ e. rw (known_none k e) (sym e))

no_size : size_of 0 ≡ 0
unfolding size_of
no_size = refl

-- a kind that has a size is known, and stays as it is
pub known_is : (k : ℕ) → 0 < size_of k → known k ≡ k
unfolding known
known_is k h = rw (lt-ltb 0 (size_of k) h) (or_zero_true k)

-- the whole record at the front: it has as many endpoint pins as numbers, each named by its number
pub endpoints_length : (xs : List ℕ) → whole_at xs ≡ true → length (endpoints_of (group_at xs)) ≡ size_of (get_or xs 0 0)
unfolding endpoints_of group_at size_of
endpoints_length [] t = let w = whole [] t in absurd (omega (arith, w.inside))
endpoints_length (x ∷ xs) t =
    let w = whole (x ∷ xs) t in
    kinds x (λ e. rw e) (λ e. rw e)
    (λ e. rw e (length-map (take 91 xs) pin_of ∙ length-take-le 91 xs (omega (arith, w.inside, ap size_of e))))
    (λ e. rw e) (λ e. absurd (omega (arith, w.some)))

one_named : (k : ℕ) (xs : List ℕ) (i : ℕ) → (k ≡ 1) ⊎ (k ≡ 4) → i < 1 → get_or (endpoints_of (group_at (k ∷ xs))) i 0 ≡ named_by k (get_or xs i 0)
unfolding endpoints_of group_at named_by
one_named k xs zero (inl e) h = rw e
one_named k xs zero (inr e) h = rw e
one_named k xs (suc i) e h = absurd (omega arith)

two_named : (xs : List ℕ) (i : ℕ) → i < 2 → get_or (endpoints_of (group_at (2 ∷ xs))) i 0 ≡ named_by 2 (get_or xs i 0)
unfolding endpoints_of group_at named_by
two_named xs zero h = refl
two_named xs (suc zero) h = refl
two_named xs (suc (suc i)) h = absurd (omega arith)

memory_named : (xs : List ℕ) (i : ℕ) → i < 91 → get_or (endpoints_of (group_at (3 ∷ xs))) i 0 ≡ named_by 3 (get_or xs i 0)
unfolding endpoints_of group_at named_by pin_of
memory_named xs i h = get_or-map pin_of (take 91 xs) i 0 ∙ ap pin_of (get_or-take 91 xs i 0 h)

-- the i-th endpoint pin is named by the i-th number behind the kind
pub endpoints_at : (xs : List ℕ) (i : ℕ) → i < size_of (get_or xs 0 0) → get_or (endpoints_of (group_at xs)) i 0 ≡ named_by (get_or xs 0 0) (get_or xs (suc i) 0)
unfolding size_of
endpoints_at [] i h = absurd (omega arith)
endpoints_at (x ∷ xs) i h = kinds x (λ e. one_named x xs i (inl e) (omega (arith, ap size_of e))) (λ e. rw e (two_named xs i (omega (arith, ap size_of e))))
    (λ e. rw e (memory_named xs i (omega (arith, ap size_of e)))) (λ e. one_named x xs i (inr e) (omega (arith, ap size_of e))) (λ e. absurd (omega arith))

-- the list's length is fuel enough
enough : (f g : ℕ) (xs : List ℕ) → length xs ≤ f → length xs ≤ g → read_from f xs ≡ read_from g xs
unfolding read_from
enough zero zero [] a b = refl
enough zero (suc g) [] a b = refl
enough (suc f) zero [] a b = refl
enough (suc f) (suc g) [] a b = refl
enough zero g (x ∷ xs) a b = absurd (omega arith)
enough (suc f) zero (x ∷ xs) a b = absurd (omega arith)
enough (suc f) (suc g) (x ∷ xs) a b =
    let l = length-drop (size_of x) xs in
    let e : read_from f (drop (size_of x) xs) ≡ read_from g (drop (size_of x) xs) = enough f g (drop (size_of x) xs) (omega arith) (omega arith) in
    split (whole_at (x ∷ xs)) (λ t. rw (t, read_from, e)) (λ t. rw (t, read_from))

front_read : (xs : List ℕ) → whole_at xs ≡ true → read xs ≡ and_then (group_at xs) (read (drop (suc (size_of (get_or xs 0 0))) xs))
unfolding read read_from
front_read [] t = let w = whole [] t in absurd (omega (arith, w.inside))
front_read (x ∷ xs) t =
    let l = length-drop (size_of x) xs in
    rw (t, read_from, enough (length xs) (length (drop (size_of x) xs)) (drop (size_of x) xs) (omega arith) (omega arith))

front_cut : (x : ℕ) (xs : List ℕ) → whole_at (x ∷ xs) ≡ false → read (x ∷ xs) ≡ unreadable
unfolding read read_from
front_cut x xs t = rw (t, read_from)

-- the record at an index
module _ (xs : List ℕ) (at : ℕ) where
  kind_at : get_or (drop at xs) 0 0 ≡ get_or xs at 0
  kind_at = rw (get_or-drop at xs 0 0, add-zero at)

  whole_test : whole_at (drop at xs) ≡ ltb 0 (size_of (get_or xs at 0)) && ltb (size_of (get_or xs at 0)) (length xs - at)
  unfolding whole_at
  whole_test = rw (kind_at, length-drop at xs)

  -- one step of reading: a whole record, and what stands behind it
  pub read_step : whole_at (drop at xs) ≡ true → read (drop at xs) ≡ and_then (group_at (drop at xs)) (read (drop (at + (1 + size_of (get_or xs at 0))) xs))
  read_step t =
      let e : suc (size_of (get_or xs at 0)) ≡ 1 + size_of (get_or xs at 0) = omega arith in
      front_read (drop at xs) t ∙ rw (kind_at, e, drop-drop (1 + size_of (get_or xs at 0)) at xs)

  -- past the end there is no record
  pub read_end : length xs ≤ at → read (drop at xs) ≡ groups []
  unfolding read read_from
  read_end h = rw (drop_of_length-le xs h)

  -- where no whole record stands the list can't be read
  pub read_cut : at < length xs → whole_at (drop at xs) ≡ false → read (drop at xs) ≡ unreadable
  read_cut h t = rw (drop-cons xs at 0 h) (front_cut (get_or xs at 0) (drop (suc at) xs) (rw (drop-cons xs at 0 h) at t))

  -- its size, from what the code tests
  pub size_past : length xs ≤ at → 0 ≡ size_at xs at
  unfolding size_at whole_at size_of or_zero
  size_past h = rw (drop_of_length-le xs h)

  -- the size that the code finds, where so many numbers stand behind the kind
  pub size_there : (s : ℕ) → s ≡ size_of (get_or xs at 0) → s < length xs - at → s ≡ size_at xs at
  unfolding size_at
  size_there zero e h = rw (whole_test, ← e, or_zero_false)
  size_there (suc s) e h = rw (whole_test, ← e, lt-ltb 0 (suc s) (omega arith), lt-ltb (suc s) (length xs - at) h, or_zero_true)

  -- size 0 where the record is cut
  pub size_cut : (s : ℕ) → s ≡ size_of (get_or xs at 0) → length xs - at ≤ s → 0 ≡ size_at xs at
  unfolding size_at
  size_cut s e h = rw (whole_test, ← e, le-ltb s (length xs - at) h, and_none (ltb 0 s), or_zero_false)

  -- a size of 0 means that no whole record stands there
  pub size_none : size_at xs at ≡ 0 → whole_at (drop at xs) ≡ false
  unfolding size_at
  size_none e = split (whole_at (drop at xs))
      (λ t. absurd (omega (arith, rw kind_at at (whole (drop at xs) t).some, rw (t, or_zero_true (size_of (get_or xs at 0))) at e)))
      (λ t. t)

  -- a size above 0 is that of a whole record
  pub record Stands : Type 0 where
    pub is : whole_at (drop at xs) ≡ true
    pub size : size_at xs at ≡ size_of (get_or xs at 0)
    pub some : 0 < size_at xs at
    pub inside : at + 1 + size_at xs at ≤ length xs

  -- a whole record has its kind's size, above 0, and ends within the list
  pub standing : whole_at (drop at xs) ≡ true → Stands
  unfolding size_at
  standing t =
      let w = whole (drop at xs) t in
      let s : size_at xs at ≡ size_of (get_or xs at 0) = rw (t, or_zero_true (size_of (get_or xs at 0))) in
      record { is = t; size = s; some = omega (arith, s, rw kind_at at w.some); inside = omega (arith, s, length-drop at xs, rw kind_at at w.inside) }

  -- a size above 0 is that of a whole record
  pub stands : 0 < size_at xs at → Stands
  unfolding size_at
  stands h = split (whole_at (drop at xs)) standing (λ t. absurd (omega (arith, rw (t, or_zero_false (size_of (get_or xs at 0))) at h)))

  -- its pins
  pub size_endpoints : whole_at (drop at xs) ≡ true → size_at xs at ≡ length (endpoints_of (group_at (drop at xs)))
  unfolding size_at
  size_endpoints t = rw t (or_zero_true (size_of (get_or xs at 0)) ∙ sym (endpoints_length (drop at xs) t ∙ ap size_of kind_at))

  -- where a whole record stands its i-th pin is read
  pub endpoint_is : whole_at (drop at xs) ≡ true → (i : ℕ) → endpoint_at xs at i ≡ get_or (endpoints_of (group_at (drop at xs))) i 0
  unfolding endpoint_at
  endpoint_is t i = rw t (or_zero_true (get_or (endpoints_of (group_at (drop at xs))) i 0))

  -- past the record's size there is no pin
  pub endpoint_none : (i : ℕ) → size_at xs at ≤ i → 0 ≡ endpoint_at xs at i
  unfolding endpoint_at size_at
  endpoint_none i h = split (whole_at (drop at xs))
      (λ t.
      let l = endpoints_length (drop at xs) t in
      let s = rw (t, or_zero_true (size_of (get_or xs at 0))) at h in
      rw (t, or_zero_true, get_or-eq_default (endpoints_of (group_at (drop at xs))) 0 {n = i} (omega (arith, l, ap size_of kind_at))))
      (λ t. rw (t, or_zero_false))

  -- a whole record's kind is known
  pub kind_there : (i : ℕ) → i < size_at xs at → 0 ≡ known (get_or xs at 0) → ⊥
  kind_there i h e =
      let w = stands (omega arith) in
      let s : size_of 0 ≡ size_of (get_or xs at 0) = ap size_of e ∙ known_size (get_or xs at 0) in
      absurd (omega (arith, w.size, s, no_size))

  -- the pin that the code reads from the i-th number is the i-th endpoint
  pub endpoint_there : (i : ℕ) {k q : ℕ} → i < size_at xs at → k ≡ known (get_or xs at 0) → q ≡ named_by k (get_or xs (at + 1 + i) 0) → q ≡ endpoint_at xs at i
  unfolding endpoint_at
  endpoint_there i h ek eq =
      let w = stands (omega arith) in
      let e : at + suc i ≡ at + 1 + i = omega arith in
      let n : known (get_or xs at 0) ≡ get_or xs at 0 = known_is (get_or xs at 0) (omega (arith, w.size)) in
      let d = endpoints_at (drop at xs) i (rw kind_at (omega (arith, w.size))) in
      rw (eq, ek, n, w.is, or_zero_true, d, kind_at, get_or-drop at xs (suc i) 0, e)

-- a test of every entry, one by one
pub every_step : (f : ℕ → Bool) (xs : List ℕ) (i : ℕ) → i < length xs → every f (drop i xs) ≡ f (get_or xs i 0) && every f (drop (i + 1) xs)
unfolding every
every_step f xs i h = rw (drop-cons xs i 0 h, add-one i) (split (f (get_or xs i 0)) (λ t. rw (t, every)) (λ t. rw (t, every)))

-- past the last entry nothing is left to test
pub every_end : (f : ℕ → Bool) (xs : List ℕ) (i : ℕ) → length xs ≤ i → every f (drop i xs) ≡ true
unfolding every
every_end f xs i h = rw (drop_of_length-le xs h)

next_right : (n : ℕ) (x : Group) (gs : Groups?) → groups_right n (and_then x gs) ≡ every (λ p. ltb p n) (endpoints_of x) && groups_right n gs
unfolding groups_right and_then all_named
next_right n x unreadable = sym (and_none (every (λ p. ltb p n) (endpoints_of x)))
next_right n x (groups gs) = refl

-- the pins of a record, and then those of the others
pub groups_step : (n : ℕ) (xs : List ℕ) (at : ℕ) → whole_at (drop at xs) ≡ true →
    groups_right n (read (drop at xs)) ≡ record_right n (drop at xs) && groups_right n (read (drop (at + (1 + size_of (get_or xs at 0))) xs))
unfolding record_right
groups_step n xs at t = rw (read_step xs at t) (next_right n (group_at (drop at xs)) (read (drop (at + (1 + size_of (get_or xs at 0))) xs)))
