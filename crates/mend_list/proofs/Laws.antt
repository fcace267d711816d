-- The places from i on that differ, counted and written. Assumes nothing.
use Prim.Native.Nat.{ℕ, suc, ◌+◌, ◌*◌, ◌/◌, ◌%◌, ◌^◌, ◌≤◌, ◌<◌}
use mathlib.Core.Path.{◌≡◌, refl, sym, ◌∙◌, ap}
use mathlib.Core.List.{List, [], ◌∷◌, ◌++◌, append_assoc}
use native.Mathlib.Omega.{arith}
use native.Mathlib.Numerals.{add-one}
use native.Mathlib.Nat.{mod-lt, div-lt_iff_lt-mul}
use lib.Pow.{pow_pos}
use lib.ListN.{length, get_or, set, take, drop, length-set, take-append-drop}
use lib.Seq.{drop-cons, drop-length, take-suc-set, drop-set-lt}
use borrow.Author.Tests.{eq-eqb, ne_eqb}
use Rattle.rules.specs.Lists.{laid_over, laid_at}
use Rattle.rules.specs.Cells.{is_height}
use Rattle.cells.specs.Answers.{or_zero}
use Rattle.cells.proofs.Heights.{or_zero_true}
use Rattle.mending.specs.Changes.{Change, change_at, changes_from, changes, numbers_of}
use Rattle.mend_list.specs.Lists.{CountAt, Counted, change_for, ChangeAt, WriteAt}
use Rattle.mend_list.specs.declared.Change as declared

-- what differs from place i on
unfoldable pub rest : ℕ → (old new : List ℕ) → ℕ → List Change
rest K old new i = changes_from K i (drop i old) (drop i new)

module _ (K : ℕ) (old new : List ℕ) (same : length new ≡ length old) (i : ℕ) (h : i < length old) where
  rest_cons : rest K old new i ≡ changes_from K i (get_or old i 0 ∷ drop (suc i) old) (get_or new i 0 ∷ drop (suc i) new)
  unfolding rest
  rest_cons = λ k. changes_from K i (drop-cons old i 0 h k) (drop-cons new i 0 (omega arith) k)

  -- a place that doesn't differ is passed over
  rest_same : get_or old i 0 ≡ get_or new i 0 → rest K old new i ≡ rest K old new (i + 1)
  unfolding rest changes_from
  rest_same e = rest_cons ∙ rw (eq-eqb _ _ e, changes_from, add-one i)

  -- another is a change
  rest_other : (get_or old i 0 ≡ get_or new i 0 → ⊥) → rest K old new i ≡ change_at K i (get_or old i 0) (get_or new i 0) ∷ rest K old new (i + 1)
  unfolding rest changes_from
  rest_other e = rest_cons ∙ rw (ne_eqb _ _ e, changes_from, add-one i)

-- all at the beginning
rest_all : (K : ℕ) (old new : List ℕ) → rest K old new 0 ≡ changes K old new
unfolding rest changes
rest_all K old new = refl

-- none at the end
rest_none : (K : ℕ) (old new : List ℕ) (i : ℕ) → i ≡ length old → rest K old new i ≡ []
unfolding rest changes_from
rest_none K old new i e = let z : drop i old ≡ [] = rw e (drop-length old) in rw z

-- ---- counted

-- before place i
pub record CountedTo (old new : List ℕ) (i n : ℕ) : Type 0 where
  pub upto : i ≤ length old
  pub few : n ≤ i
  pub is : (K : ℕ) → n + length (rest K old new i) ≡ length (changes K old new)

module _ (old new : List ℕ) (A : CountAt old new) where
  pub counted_none : CountedTo old new 0 0
  counted_none = record { upto = omega arith; few = omega arith; is = λ K. omega (arith, ap length (rest_all K old new)) }

  module _ (i n : ℕ) (R : CountedTo old new i n) where
    pub counted_same : i < length old → get_or old i 0 ≡ get_or new i 0 → CountedTo old new (i + 1) n
    counted_same h e = record { upto = omega arith; few = omega (arith, R.few); is = λ K. rw (rest_same K old new A.same i h e) at (R.is K) }

    pub counted_other : i < length old → (get_or old i 0 ≡ get_or new i 0 → ⊥) → CountedTo old new (i + 1) (n + 1)
    counted_other h e = record { upto = omega arith; few = omega (arith, R.few); is = λ K. omega (arith, R.is K, ap length (rest_other K old new A.same i h e)) }

    pub counted_all : length old ≤ i → Counted old new n
    counted_all h = record { is = λ K. omega (arith, R.is K, R.upto, ap length (rest_none K old new i (omega (arith, R.upto)))); few = omega (arith, R.few, R.upto) }

-- ---- a change

module _ (K i : ℕ) (A : ChangeAt K i) (size : ℕ) (es : size ≡ or_zero (is_height K) (2 ^ (K + 1))) where
  pub size_is : size ≡ 2 ^ (K + 1)
  size_is = rw (A.height, or_zero_true (2 ^ (K + 1))) at es

  -- its numbers fit
  pub fitting : (0 < size) × (i / size < 4294967295) × (i % size < 16384)
  fitting = rw size_is (A.some, A.stage, omega (arith, A.high, mod-lt i A.some))

  -- it is that of the rules
  pub change_is : (old new : ℕ) → change_for (record { stage = i / size + 1; position = i % size; old = old; new = new }) ≡ change_at K i old new
  unfolding change_for change_at
  change_is old new = rw (size_is, add-one (i / 2 ^ (K + 1)))

-- ---- written

-- the first of some numbers is stored, the others still to be
laid_first : (at x : ℕ) (xs now : List ℕ) → at < length now → laid_at at (x ∷ xs) now ≡ laid_at (at + 1) xs (set now at x)
unfolding laid_at
laid_first at x xs now h =
    let e : at + suc (length xs) ≡ suc at + length xs = omega arith in
    rw (add-one at, take-suc-set now at x h, drop-set-lt (suc at + length xs) now at x (omega arith), e) (sym (append_assoc (take at now) (x ∷ []) (xs ++ drop (suc at + length xs) now)))

-- four of them
laid_four : (at a b c d : ℕ) (xs now : List ℕ) → at + 4 ≤ length now → laid_at at (a ∷ b ∷ c ∷ d ∷ xs) now ≡ laid_at (at + 4) xs (set (set (set (set now at a) (at + 1) b) (at + 2) c) (at + 3) d)
laid_four at a b c d xs now h =
    let s : at + 1 + 1 ≡ at + 2 = omega arith in
    let t : at + 2 + 1 ≡ at + 3 = omega arith in
    let u : at + 3 + 1 ≡ at + 4 = omega arith in
    let p = laid_first at a (b ∷ c ∷ d ∷ xs) now (omega arith) in
    let q = laid_first (at + 1) b (c ∷ d ∷ xs) (set now at a) (simp length-set (omega arith)) in
    let r = laid_first (at + 2) c (d ∷ xs) (set (set now at a) (at + 1) b) (simp length-set (omega arith)) in
    let v = laid_first (at + 3) d xs (set (set (set now at a) (at + 1) b) (at + 2) c) (simp length-set (omega arith)) in
    p ∙ (rw s at q) ∙ (rw t at r) ∙ (rw u at v)

-- the changes before place i are written, up to `at`
pub record WrittenTo (K : ℕ) (old new list : List ℕ) (i at : ℕ) (now : List ℕ) : Type 0 where
  pub upto : i ≤ length old
  pub len : length now ≡ length list
  pub room : at + 4 * length (rest K old new i) ≤ length list
  pub is : laid_at at (numbers_of (rest K old new i)) now ≡ laid_over (numbers_of (changes K old new)) list

module _ (K : ℕ) (old new list : List ℕ) (A : WriteAt K old new list) where
  pub written_none : WrittenTo K old new list 0 0 list
  unfolding laid_at laid_over
  written_none =
      let e = rest_all K old new in
      record { upto = omega arith; len = refl; room = omega (arith, A.room, ap length e); is = rw e (let z : 0 + length (numbers_of (changes K old new)) ≡ length (numbers_of (changes K old new)) = omega arith in rw z) }

  -- a place has a stage and a position
  pub change_here : (i : ℕ) → i < length old → ChangeAt K i
  change_here i h = record {
    height = A.height;
    some = pow_pos (K + 1);
    high = A.high;
    stage = (div-lt_iff_lt-mul {k = 2 ^ (K + 1)} {x = i} {y = 4294967295} (pow_pos (K + 1))).1 (omega (arith, A.stages));
  }

  module _ (i at : ℕ) (now : List ℕ) (R : WrittenTo K old new list i at now) where
    pub written_same : i < length old → get_or old i 0 ≡ get_or new i 0 → WrittenTo K old new list (i + 1) at now
    written_same h e =
        let z = rest_same K old new A.same i h e in
        record { upto = omega arith; len = R.len; room = rw z at R.room; is = rw z at R.is }

    module _ (h : i < length old) (e : get_or old i 0 ≡ get_or new i 0 → ⊥) where
      more : rest K old new i ≡ change_at K i (get_or old i 0) (get_or new i 0) ∷ rest K old new (i + 1)
      more = rest_other K old new A.same i h e

      -- there is room for another
      pub next_room : at + 4 ≤ length now
      next_room = omega (arith, R.room, R.len, ap length more)

      module _ (d : declared.Change) (ed : change_for d ≡ change_at K i (get_or old i 0) (get_or new i 0)) where
        -- it is written
        pub written_other : (x : List ℕ) → x ≡ set (set (set (set now at d.stage) (at + 1) d.position) (at + 2) d.old) (at + 3) d.new → WrittenTo K old new list (i + 1) (at + 4) x
        unfolding numbers_of change_for
        written_other x ex = record {
          upto = omega arith;
          len = ap length ex ∙ simp length-set R.len;
          room = omega (arith, R.room, ap length more);
          is = rw ex (sym (laid_four at d.stage d.position d.old d.new (numbers_of (rest K old new (i + 1))) now next_room) ∙ (rw (more, ← ed) at R.is));
        }

    pub written_all : length old ≤ i → now ≡ laid_over (numbers_of (changes K old new)) list
    unfolding laid_at numbers_of
    written_all h =
        let z = rest_none K old new i (omega (arith, R.upto)) in
        let a : at + 0 ≡ at = omega arith in
        sym (take-append-drop at now) ∙ (rw (z, a) at R.is)
