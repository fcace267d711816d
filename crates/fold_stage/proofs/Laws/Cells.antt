-- A cell's bit by what the code tests, and a stage's bits from level 0 up. Assumes nothing.
use Prim.Native.Nat.{ℕ, zero, suc, ◌+◌, ◌-◌, ◌%◌, ◌^◌, ◌≤◌, ◌<◌}
use mathlib.Core.Path.{◌≡◌, refl, sym, ◌∙◌, ap}
use mathlib.Core.Bool.{Bool, true, false, not, ◌&&◌}
use mathlib.Core.List.{List, [], ◌∷◌}
use native.Mathlib.Omega.{arith}
use lib.Dec.{eqb, ltb}
use lib.ListN.{length, get_or, set, length-set}
use lib.Seq.{get_or-set_same, get_or-set_other, ext_get_or}
use borrow.Author.Tests.{eq-eqb, ne_eqb, ltb-true, ltb-false, not-true, not-false}
use Rattle.rules.specs.Cells.{is_height, empty, filled, first_lower, second_lower}
use Rattle.rules.specs.Graph.{inversion_of, literal_bit}
use Rattle.rules.specs.Fold.{as_number}
use Rattle.rules.specs.Coded.{ands, first_inversion, second_inversion, bit_of, cell_bits}
use Rattle.rules.proofs.Lists.Members.{split}
use Rattle.rules.proofs.Fold.Bits.{lower_cells}
use Rattle.coded.proofs.Bits.{bit_empty, bit_copies, bit_lacks, bit_ands, length-cell_bits, get_or-cell_bits}
use Rattle.fold_stage.specs.Bits.{StageAt, RightFrom, CellAt, CellFolds, UpAt, FoldsUp}
use Rattle.cells.specs.Answers.{or_zero}
use Rattle.cells.proofs.Heights.{or_zero_true}

-- a number is a bit
pub bit_number : (b : Bool) → not (eqb (as_number b) 0) ≡ b
unfolding as_number
bit_number true = refl
bit_number false = refl

-- what stands inside a list does not depend on what stands for the outside
pub get_or_inside : (xs : List ℕ) (i d e : ℕ) → i < length xs → get_or xs i d ≡ get_or xs i e
get_or_inside [] i d e h = absurd (omega arith)
get_or_inside (x ∷ xs) zero d e h = refl
get_or_inside (x ∷ xs) (suc i) d e h = get_or_inside xs i d e (omega arith)

-- what a test for the empty mark tells
pub none : {t b : Bool} → t ≡ not b → t ≡ true → b ≡ false
none {t} {b} e h = not-true b (sym e ∙ h)

-- and where it fails
pub some : {t b : Bool} → t ≡ not b → t ≡ false → b ≡ true
some {t} {b} e h = not-false b (sym e ∙ h)

-- an even inversion leaves a bit
pub bit_even : (l : ℕ) (b : Bool) → l % 2 ≡ 0 → b ≡ literal_bit l b
unfolding literal_bit inversion_of
bit_even l b e = let d : eqb (l % 2) 0 ≡ true = eq-eqb (l % 2) 0 e in rw (d, literal_bit)

-- an odd one inverts it
pub bit_odd : (l : ℕ) (b : Bool) → (l % 2 ≡ 0 → ⊥) → not b ≡ literal_bit l b
unfolding literal_bit inversion_of
bit_odd l b e = let d : eqb (l % 2) 0 ≡ false = ne_eqb (l % 2) 0 e in rw (d, literal_bit)

-- an AND whose first bit is 1 is its second
pub and_one : (i i' j j' : ℕ) (a b x y : Bool) → i ≡ i' → j ≡ j' → x ≡ literal_bit i a → x ≡ true → y ≡ literal_bit j b → y ≡ (literal_bit i' a && literal_bit j' b)
and_one i i' j j' a b x y d e f t h =
    let z : literal_bit i' a ≡ true = ap (λ (n : ℕ). literal_bit n a) (sym d) ∙ sym f ∙ t in
    rw z (h ∙ ap (λ (n : ℕ). literal_bit n b) e)

-- and one whose first is 0 is 0
pub and_zero : (i i' j' : ℕ) (a b x : Bool) → i ≡ i' → x ≡ literal_bit i a → x ≡ false → false ≡ (literal_bit i' a && literal_bit j' b)
and_zero i i' j' a b x d f t =
    let z : literal_bit i' a ≡ false = ap (λ (n : ℕ). literal_bit n a) (sym d) ∙ sym f ∙ t in
    rw z

module _ (cells bits : List ℕ) (p : ℕ) (C : CellAt p cells bits) (q : ℕ) (eq : q ≡ p) where
  here : get_or cells q 0 ≡ get_or cells p empty
  here = rw eq (get_or_inside cells p 0 empty C.here)

  -- an empty cell folds to 0
  pub folds_empty : filled (get_or cells q 0) ≡ false → CellFolds cells bits p false
  folds_empty e = record { all = λ K load low high R. sym (bit_empty K cells load p (ap filled (sym here) ∙ e)) }

  module _ (full : filled (get_or cells q 0) ≡ true) (a : ℕ) (ea : a ≡ first_lower p) where
    held : filled (get_or cells p empty) ≡ true
    held = ap filled (sym here) ∙ full

    first : get_or cells a 0 ≡ get_or cells (first_lower p) empty
    first = rw ea (get_or_inside cells (first_lower p) 0 empty C.first)

    first_bit : (K : ℕ) (load : ℕ → Bool) → 1 ≤ p → p < 2 ^ K → RightFrom K cells load (suc p) bits → not (eqb (get_or bits a 0) 0) ≡ bit_of K cells load (first_lower p)
    first_bit K load low high R =
        let l = lower_cells K p low high in
        rw (ea, R.bit (first_lower p) (omega (arith, l.above)) (omega (arith, l.next, l.inside))) (bit_number (bit_of K cells load (first_lower p)))

    -- a cell that does not AND copies its first lower cell
    pub folds_copies : ands (get_or cells q 0) ≡ false → CellFolds cells bits p (not (eqb (get_or bits a 0) 0))
    folds_copies e = record { all = λ K load low high R. first_bit K load low high R ∙ sym (bit_copies K cells load p low high held (ap ands (sym here) ∙ e)) }

    module _ (joins : ands (get_or cells q 0) ≡ true) where
      ands_here : ands (get_or cells p empty) ≡ true
      ands_here = ap ands (sym here) ∙ joins

      -- without the first lower cell an AND folds to 0
      pub folds_first_lacks : filled (get_or cells a 0) ≡ false → CellFolds cells bits p false
      folds_first_lacks e = record { all = λ K load low high R. sym (bit_lacks K cells load p low high held ands_here (let z : filled (get_or cells (first_lower p) empty) ≡ false = ap filled (sym first) ∙ e in rw z)) }

      module _ (there : filled (get_or cells a 0) ≡ true) (b : ℕ) (eb : b ≡ second_lower p) where
        first_there : filled (get_or cells (first_lower p) empty) ≡ true
        first_there = ap filled (sym first) ∙ there

        second : get_or cells b 0 ≡ get_or cells (second_lower p) empty
        second = rw eb (get_or_inside cells (second_lower p) 0 empty C.second)

        -- without the second it does too
        pub folds_second_lacks : filled (get_or cells b 0) ≡ false → CellFolds cells bits p false
        folds_second_lacks e = record { all = λ K load low high R. sym (bit_lacks K cells load p low high held ands_here (let z : filled (get_or cells (second_lower p) empty) ≡ false = ap filled (sym second) ∙ e in rw (first_there, z))) }

        second_bit : (K : ℕ) (load : ℕ → Bool) → 1 ≤ p → p < 2 ^ K → RightFrom K cells load (suc p) bits → not (eqb (get_or bits b 0) 0) ≡ bit_of K cells load (second_lower p)
        second_bit K load low high R =
            let l = lower_cells K p low high in
            rw (eb, R.bit (second_lower p) (omega (arith, l.above, l.next)) l.inside) (bit_number (bit_of K cells load (second_lower p)))

        -- with both it is their AND, inverted as the cell says
        pub folds_and : filled (get_or cells b 0) ≡ true → (r : Bool) →
            r ≡ (literal_bit (first_inversion (get_or cells q 0)) (not (eqb (get_or bits a 0) 0)) && literal_bit (second_inversion (get_or cells q 0)) (not (eqb (get_or bits b 0) 0))) → CellFolds cells bits p r
        folds_and e r er = record {
          all = λ K load low high R.
              er ∙ (λ i. literal_bit (first_inversion (here i)) (first_bit K load low high R i) && literal_bit (second_inversion (here i)) (second_bit K load low high R i))
              ∙ sym (bit_ands K cells load p low high held ands_here first_there (ap filled (sym second) ∙ e));
        }

-- ---- from level 0 up

-- the bits from p on are there
pub record Rising (K : ℕ) (cells bits : List ℕ) (p : ℕ) (now : List ℕ) : Type 0 where
  pub len : length now ≡ length bits
  pub low : 1 ≤ p
  pub high : p ≤ 2 ^ K
  pub all : (load : ℕ → Bool) → RightFrom K cells load (2 ^ K) bits → RightFrom K cells load p now

module _ (K : ℕ) (cells bits : List ℕ) (U : UpAt K cells bits) where
  -- at the start level 0 alone has its bits
  pub rising_none : (p : ℕ) → p ≡ 2 ^ K → Rising K cells bits p bits
  rising_none p e = record { len = refl; low = omega (arith, U.stage.low); high = omega arith; all = λ load R. rw e R }

  -- the next cell down and its lower cells are in the stage
  pub rising_cell : (p : ℕ) (now : List ℕ) → Rising K cells bits p now → 1 < p → CellAt (p - 1) cells now
  rising_cell p now r h =
      let l = lower_cells K (p - 1) (omega arith) (omega (arith, r.high)) in
      record { here = omega (arith, r.high, U.stage.size, U.stage.double); first = omega (arith, l.next, l.inside, U.stage.size); second = omega (arith, l.inside, U.stage.size); same = omega (arith, r.len, U.same) }

  right_more : (load : ℕ → Bool) (p v : ℕ) (now : List ℕ) → p < length now → v ≡ as_number (bit_of K cells load p) → RightFrom K cells load (suc p) now → RightFrom K cells load p (set now p v)
  right_more load p v now h e R = record {
    bit = λ q a b. split (ltb p q)
        (λ t. get_or-set_other now p q v 0 (λ d. omega (arith, ltb-true p q t)) ∙ R.bit q (ltb-true p q t) b)
        (λ t. let d : q ≡ p = omega (arith, ltb-false p q t) in rw (d, get_or-set_same now p v 0 h) e);
  }

  -- its bit stored, the bits from that position on are there
  pub rising_more : (p : ℕ) (now : List ℕ) → Rising K cells bits p now → 1 < p → (x : Bool) → CellFolds cells now (p - 1) x → (v : ℕ) → v ≡ as_number x → Rising K cells bits (p - 1) (set now (p - 1) v)
  rising_more p now r h x F v e =
      let s : suc (p - 1) ≡ p = omega arith in
      record {
        len = length-set now (p - 1) v ∙ r.len;
        low = omega arith;
        high = omega (arith, r.high);
        all = λ load R.
            let N : RightFrom K cells load (suc (p - 1)) now = rw s (r.all load R) in
            right_more load (p - 1) v now (omega (arith, r.len, r.high, U.same, U.stage.size, U.stage.double)) (e ∙ ap as_number (F.all K load (omega arith) (omega (arith, r.high)) N)) N;
      }

  -- at position 1 all bits are there; position 0 gets 0
  pub rising_done : (p : ℕ) (now : List ℕ) → Rising K cells bits p now → p ≤ 1 → FoldsUp K cells bits (set now 0 0)
  unfolding bit_of as_number
  rising_done p now r h = record {
    all = λ load R.
        let one : p ≡ 1 = omega (arith, r.low) in
        let N : RightFrom K cells load 1 now = rw one at (r.all load R) in
        let M = right_more load 0 0 now (omega (arith, r.len, U.same, U.stage.size, U.stage.double, U.stage.low)) refl N in
        let len : length (set now 0 0) ≡ length (cell_bits K cells load) = length-set now 0 0 ∙ omega (arith, r.len, U.same, U.stage.size, length-cell_bits K cells load) in
        ext_get_or 0 (set now 0 0) (cell_bits K cells load) len (λ i b.
        let c : i < 2 ^ (K + 1) = omega (arith, len, length-cell_bits K cells load) in
        M.bit i (omega arith) c ∙ sym (get_or-cell_bits K cells load i c));
  }

-- the width, as the code reads it
pub width_there : {K w : ℕ} {cells : List ℕ} → StageAt K cells → w ≡ or_zero (is_height K) (2 ^ K) → w ≡ 2 ^ K
width_there {K} S e = rw (S.height, or_zero_true (2 ^ K)) at e
