-- A cell by what the code tests, and a stage as far as it is coded. Assumes nothing.
use Prim.Native.Nat.{ℕ, zero, suc, ◌+◌, ◌-◌, ◌*◌, ◌%◌, ◌^◌, ◌≤◌, ◌<◌}
use mathlib.Core.Path.{◌≡◌, refl, sym, ◌∙◌, ap}
use mathlib.Core.Bool.{Bool, true}
use mathlib.Core.List.{List}
use native.Mathlib.Omega.{arith}
use native.Mathlib.Numerals.{add-one}
use lib.Dec.{leb, ltb}
use lib.Pow.{pow-add}
use lib.ListN.{length, get_or, set}
use lib.Seq.{ext_get_or}
use borrow.Author.Tests.{ne_eqb, leb-true, ltb-true, ltb-false}
use Rattle.rules.specs.Cells.{is_height, empty, filled, log_from, log2, row_start, first_lower}
use Rattle.rules.specs.Graph.{Node, leaf, gate, inversion_of}
use Rattle.rules.specs.Coded.{and_of, and_cell, coded_at, coded}
use Rattle.rules.proofs.Fold.Bits.{lower_cells}
use Rattle.cells.specs.Answers.{or_zero}
use Rattle.cells.proofs.Heights.{or_zero_true}
use Rattle.cell.proofs.Cells.{mark_empty, other_filled}
use Rattle.rules.proofs.Lists.Members.{split, and_true}
use Rattle.rules.proofs.Build.Coding.{length_coded}
use Rattle.coded.proofs.Coding.{coded_empty, coded_load, coded_copy, coded_and, not_filled}
use Rattle.coded.proofs.InPlace.{default_same, coded_cell_lem, partly, partly_length, still_pins, coded_before, partly_turn}
use Rattle.coding.specs.Stages.{StageAt, CellAt, coded_to, PartAt, Blank}

-- ---- an AND

-- an inversion is 0 or 1
pub inversion_small : (l i : ℕ) → i ≡ inversion_of l → i < 2
unfolding inversion_of
inversion_small l i e = omega arith

-- a leaf's cell
pub and_leaf : (n r : ℕ) → r ≡ and_of n 0 0 → r ≡ and_cell n leaf
unfolding and_cell
and_leaf n r e = e

-- a gate's
pub and_gate : (n a b i j r : ℕ) → i ≡ inversion_of a → j ≡ inversion_of b → r ≡ and_of n i j → r ≡ and_cell n (gate a b)
unfolding and_cell
and_gate n a b i j r d e f = f ∙ (λ k. and_of n (d k) (e k))

-- ---- a cell

module _ (K : ℕ) (cells : List ℕ) (p : ℕ) (C : CellAt K cells p) where
  here : get_or cells p 0 ≡ get_or cells p empty
  here = default_same cells p 0 empty C.here

  -- an empty cell stays empty
  pub code_empty : (g : List Node) → get_or cells p 0 ≡ 4294967295 → (r : ℕ) → r ≡ empty → r ≡ coded_at K g cells p
  code_empty g e r d = d ∙ sym (coded_empty K g cells p (mark_empty (get_or cells p empty) (sym here ∙ e)))

  module _ (full : get_or cells p 0 ≡ 4294967295 → ⊥) where
    held : filled (get_or cells p empty) ≡ true
    held = other_filled (get_or cells p empty) (λ e. full (here ∙ e))

    -- what is held is a pin
    pub pin_small : get_or cells p 0 < 65536
    pin_small = rw here (C.pin held)

    module _ (w : ℕ) (ew : w ≡ or_zero (is_height K) (2 ^ K)) where
      wide : w ≡ 2 ^ K
      wide = rw (C.height, or_zero_true (2 ^ K)) at ew

      -- at level 0 it stays
      pub code_load : (g : List Node) → w ≤ p → (r : ℕ) → r ≡ get_or cells p 0 → r ≡ coded_at K g cells p
      code_load g h r d = d ∙ here ∙ sym (coded_load K g cells p held (omega (arith, wide)))

      module _ (h : p < w) (a : ℕ) (ea : a ≡ first_lower p) where
        -- above it the first lower cell is in the stage
        pub first_inside : a < length cells
        first_inside = omega (arith, C.first (omega (arith, wide)))

        first : get_or cells a 0 ≡ get_or cells (first_lower p) empty
        first = rw ea (default_same cells (first_lower p) 0 empty (C.first (omega (arith, wide))))

        -- the same pin below is copied
        pub code_copy : (g : List Node) → get_or cells a 0 ≡ get_or cells p 0 → (r : ℕ) → r ≡ get_or cells p 0 → r ≡ coded_at K g cells p
        code_copy g e r d = d ∙ here ∙ sym (coded_copy K g cells p held (omega (arith, wide)) (sym first ∙ e ∙ here))

        -- any other pin ANDs
        pub code_and : (g : List Node) → (get_or cells a 0 ≡ get_or cells p 0 → ⊥) → (x : Node) → x ≡ get_or g (get_or cells p 0) leaf → (r : ℕ) → r ≡ and_cell (get_or cells p 0) x → r ≡ coded_at K g cells p
        code_and g e x ex r d =
            d ∙ (λ i. and_cell (here i) ((ex ∙ ap (λ (n : ℕ). get_or g n leaf) here) i))
            ∙ sym (coded_and K g cells p held (omega (arith, wide)) (ne_eqb (get_or cells (first_lower p) empty) (get_or cells p empty) (λ z. e (first ∙ z ∙ sym here))))

-- ---- eight cells

-- as far as cell i of them: n are empty, and if that is all, each is
pub record Counted (cells : List ℕ) (p i n : ℕ) : Type 0 where
  pub upto : i ≤ 8
  pub few : n ≤ i
  pub all : n ≡ i → (q : ℕ) → p ≤ q → q < p + i → get_or cells q 0 ≡ 4294967295

module _ (cells : List ℕ) (p : ℕ) where
  pub counted_none : Counted cells p 0 0
  counted_none = record { upto = omega arith; few = omega arith; all = λ e q a b. absurd (omega arith) }

  module _ (i n : ℕ) (C : Counted cells p i n) (h : i < 8) where
    -- an empty one counts
    pub counted_more : get_or cells (p + i) 0 ≡ 4294967295 → Counted cells p (i + 1) (n + 1)
    counted_more e = record {
      upto = omega arith;
      few = omega (arith, C.few);
      all = λ d q a b. split (ltb q (p + i))
          (λ t. C.all (omega arith) q a (ltb-true q (p + i) t))
          (λ t. let z : q ≡ p + i = omega (arith, ltb-false q (p + i) t) in rw z e);
    }

    -- another doesn't, so not all are empty
    pub counted_less : Counted cells p (i + 1) n
    counted_less = record { upto = omega arith; few = omega (arith, C.few); all = λ d q a b. absurd (omega (arith, C.few)) }

  pub counted_all : (i n : ℕ) → Counted cells p i n → 8 ≤ i → (r : Bool) → (r ≡ true → n ≡ 8) → Blank cells p r
  counted_all i n C h r e = record { all = λ t q a b. let z : i ≡ 8 = omega (arith, C.upto) in C.all (omega (arith, e t)) q a (omega arith) }

-- ---- a stage

mark_is : empty ≡ 4294967295
unfolding empty
mark_is = refl

-- so many cells above level 0 and position 0 are whole eights
pub eights : (K : ℕ) → is_height K ≡ true → 2 ^ K % 8 ≡ 0
unfolding is_height
eights K h =
    let t : 6 ≤ K = leb-true 6 K (and_true (leb 6 K) (leb K 13) h).0 in
    let d : 3 + (K - 3) ≡ K = omega arith in
    let e : 2 ^ K ≡ 2 ^ 3 * 2 ^ (K - 3) = rw d at (pow-add 2 3 (K - 3)) in
    omega arith

first_lower_in : (K p : ℕ) → p < 2 ^ K → 2 ^ (K + 1) ≡ 2 * 2 ^ K → first_lower p < 2 ^ (K + 1)
unfolding first_lower row_start log2 log_from
first_lower_in K zero h d = omega arith
first_lower_in K (suc p) h d = let l = lower_cells K (suc p) (omega arith) h in omega (arith, l.next, l.inside)

to_partly : (K : ℕ) (g : List Node) (pl : List ℕ) (i : ℕ) → coded_to K g pl i ≡ partly K g pl i
unfolding coded_to partly
to_partly K g pl i = refl

module _ (K : ℕ) (g : List Node) (pl : List ℕ) (S : StageAt K pl) where
  -- the width, as the code gets it
  pub width_is : {w : ℕ} → w ≡ or_zero (is_height K) (2 ^ K) → w ≡ 2 ^ K
  width_is ew = rw (S.height, or_zero_true (2 ^ K)) at ew

  -- at the start all are pins
  pub to_none : pl ≡ coded_to K g pl 0
  unfolding coded_to
  to_none = refl

  -- a cell a position all the while
  pub to_length : (i : ℕ) → i ≤ 2 ^ K → length (coded_to K g pl i) ≡ 2 ^ (K + 1)
  to_length i h = ap length (to_partly K g pl i) ∙ partly_length K g pl S.size i (omega (arith, S.double))

  module _ (i : ℕ) (now : List ℕ) (e : now ≡ coded_to K g pl i) (h : i < 2 ^ K) where
    inside : i < 2 ^ (K + 1)
    inside = omega (arith, S.double)

    partway : now ≡ partly K g pl i
    partway = e ∙ to_partly K g pl i

    -- the stage keeps its size
    pub still_long : length now ≡ 2 ^ (K + 1)
    still_long = ap length e ∙ to_length i (omega arith)

    -- the next cell and its first lower cell are pins still
    pub next_cell : CellAt K now i
    next_cell = record {
      height = S.height;
      here = omega (arith, inside, still_long);
      first = λ b. omega (arith, still_long, first_lower_in K i b S.double);
      pin = let z : get_or now i empty ≡ get_or pl i empty = ap (λ (x : List ℕ). get_or x i empty) partway ∙ still_pins K g pl S.size i (omega (arith, inside)) i (omega arith) in λ k. rw z (S.pins i (rw z at k));
    }

    -- it is coded
    pub next_coded : (v : ℕ) → v ≡ coded_at K g now i → set now i v ≡ coded_to K g pl (i + 1)
    next_coded v d =
        (λ k. set (partway k) i ((d ∙ ap (λ (x : List ℕ). coded_at K g x i) partway) k)) ∙ partly_turn K g pl S.size i inside
        ∙ ap (partly K g pl) (sym (add-one i)) ∙ sym (to_partly K g pl (i + 1))

  -- eight empty cells are coded as they stand
  pub skipped : (i : ℕ) (now : List ℕ) → now ≡ coded_to K g pl i → i + 8 ≤ 2 ^ K → ((q : ℕ) → i ≤ q → q < i + 8 → get_or now q 0 ≡ 4294967295) → now ≡ coded_to K g pl (i + 8)
  skipped i now e h b =
      let low : i ≤ 2 ^ (K + 1) = omega (arith, S.double) in
      let high : i + 8 ≤ 2 ^ (K + 1) = omega (arith, S.double) in
      let n = partly_length K g pl S.size i low in
      let m = partly_length K g pl S.size (i + 8) high in
      let a : now ≡ partly K g pl i = e ∙ to_partly K g pl i in
      a ∙ ext_get_or empty (partly K g pl i) (partly K g pl (i + 8)) (n ∙ sym m)
      (λ j d. split (ltb j i)
      (λ t. let k = ltb-true j i t in coded_before K g pl S.size i low j k ∙ sym (coded_before K g pl S.size (i + 8) high j (omega arith)))
      (λ t. let k = ltb-false j i t in split (ltb j (i + 8))
      (λ u.
      let v = ltb-true j (i + 8) u in
      let c = still_pins K g pl S.size i low j k in
      let x : get_or pl j empty ≡ 4294967295 = sym c ∙ ap (λ (y : List ℕ). get_or y j empty) (sym a) ∙ default_same now j empty 0 (omega (arith, ap length a, n)) ∙ b j k v in
      c ∙ x ∙ sym (coded_before K g pl S.size (i + 8) high j v ∙ coded_cell_lem K g pl j (omega (arith, n)) ∙ coded_empty K g pl j (mark_empty (get_or pl j empty) x) ∙ mark_is))
      (λ u. let v = ltb-false j (i + 8) u in still_pins K g pl S.size i low j k ∙ sym (still_pins K g pl S.size (i + 8) high j v))))
      ∙ sym (to_partly K g pl (i + 8))

  level_zero : (j : ℕ) → 2 ^ K ≤ j → coded_at K g pl j ≡ get_or pl j empty
  level_zero j h = split (filled (get_or pl j empty))
      (λ f. coded_load K g pl j f h)
      (λ f. coded_empty K g pl j f ∙ sym (not_filled (get_or pl j empty) f))

  -- above level 0 all are coded, and level 0 stays
  pub all_coded : (i : ℕ) (now : List ℕ) → now ≡ coded_to K g pl i → i ≡ 2 ^ K → now ≡ coded K g pl
  all_coded i now e z =
      let low : 2 ^ K ≤ 2 ^ (K + 1) = omega (arith, S.double) in
      let n : length (partly K g pl (2 ^ K)) ≡ 2 ^ (K + 1) = partly_length K g pl S.size (2 ^ K) low in
      e ∙ to_partly K g pl i ∙ ap (partly K g pl) z
      ∙ ext_get_or empty (partly K g pl (2 ^ K)) (coded K g pl) (n ∙ sym (length_coded K g pl))
      (λ j d. split (ltb j (2 ^ K))
      (λ t. coded_before K g pl S.size (2 ^ K) low j (ltb-true j (2 ^ K) t))
      (λ t.
      let k = ltb-false j (2 ^ K) t in
      still_pins K g pl S.size (2 ^ K) low j k ∙ sym (coded_cell_lem K g pl j (omega (arith, n)) ∙ level_zero j k)))

-- ---- eight by eight

-- the cells before p are coded, whole eights of them
pub record Coming (K : ℕ) (g : List Node) (pl : List ℕ) (end p : ℕ) (cells : List ℕ) : Type 0 where
  pub upto : p ≤ end
  pub whole : p % 8 ≡ 0
  pub now : cells ≡ coded_to K g pl p

module _ (K : ℕ) (g : List Node) (pl : List ℕ) (S : StageAt K pl) (end : ℕ) (ee : end ≡ or_zero (is_height K) (2 ^ K)) where
  pub coming_none : Coming K g pl end 0 pl
  coming_none = record { upto = omega arith; whole = refl; now = to_none K g pl S }

  module _ (p : ℕ) (cells : List ℕ) (C : Coming K g pl end p cells) where
    -- the stage keeps its size
    pub coming_long : length cells ≡ length pl
    coming_long = ap length C.now ∙ to_length K g pl S p (omega (arith, C.upto, width_is K g pl S ee)) ∙ sym S.size

    -- eight more cells stand above level 0
    pub coming_room : p < end → p + 8 ≤ 2 ^ K
    coming_room h = omega (arith, width_is K g pl S ee, eights K S.height, C.whole)

    -- they may be coded
    pub coming_part : p < end → PartAt K g p (p + 8) cells pl
    coming_part h = record { stage = S; now = C.now; order = omega arith; high = coming_room h }

    -- they are
    pub coming_coded : p < end → (x : List ℕ) → x ≡ coded_to K g pl (p + 8) → Coming K g pl end (p + 8) x
    coming_coded h x e = record { upto = omega (arith, coming_room h, width_is K g pl S ee); whole = omega (arith, C.whole); now = e }

    -- or they are empty
    pub coming_blank : p < end → (r : Bool) → Blank cells p r → r ≡ true → Coming K g pl end (p + 8) cells
    coming_blank h r B t = coming_coded h cells (skipped K g pl S p cells C.now (coming_room h) (B.all t))

    pub coming_done : end ≤ p → cells ≡ coded K g pl
    coming_done h = all_coded K g pl S p cells C.now (omega (arith, C.upto, width_is K g pl S ee))
