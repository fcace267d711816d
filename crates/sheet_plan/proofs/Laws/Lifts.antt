-- Which pins the graph can code, by what the code tests. Assumes nothing.
use mathlib.Core.Path.{◌≡◌, refl, sym, ap, ◌∙◌}
use mathlib.Core.Bool.{Bool, true, false, not, ◌&&◌, ◌||◌}
use mathlib.Core.List.{List}
use Prim.Native.Nat.{ℕ, zero, suc, ◌+◌, ◌^◌, ◌<◌, ◌≤◌}
use native.Mathlib.Omega.{arith}
use lib.Dec.{leb, ltb, eqb}
use lib.ListN.{length, get_or, drop}
use borrow.Author.Tests.{le-leb, lt-leb, lt-ltb, le-ltb, eq-eqb, ne_eqb}
use Rattle.rules.specs.Lists.{every, up_to}
use Rattle.rules.specs.Cells.{empty, filled, is_height, width, log_from, log2, row_start, first_lower}
use Rattle.rules.specs.Graph.{Node, leaf, graph_of, pin_count}
use Rattle.rules.specs.Fold.{is_leaf}
use Rattle.rules.proofs.Stage.Staged.{two_step}
use Rattle.rules.proofs.Fold.Bits.{lower_cells, get_or-up_to}
use Rattle.graph.proofs.Gates.{graph_length}
use Rattle.records.proofs.Reading.{every_step, every_end}
use Rattle.cells.specs.Answers.{or_zero}
use Rattle.cells.proofs.Heights.{or_zero_true}
use Rattle.cell.proofs.Cells.{mark_empty, other_filled}
use Rattle.coded.proofs.InPlace.{default_same}
use Rattle.sheet_form.specs.Lifting.{lifts_at, stage_lifts}
use Rattle.sheet_plan.specs.Plans.{StageAt, LiftAt}

-- ---- a position

module _ {K : ℕ} {cells : List ℕ} {p : ℕ} (A : LiftAt K cells p) (gates : List ℕ) where
  abbrev g : List Node
  g = graph_of gates

  abbrev held : ℕ
  held = get_or cells p 0

  here : get_or cells p 0 ≡ get_or cells p empty
  here = default_same cells p 0 empty A.here

  -- an empty cell
  pub lift_empty : get_or cells p 0 ≡ 4294967295 → true ≡ lifts_at K g cells p
  unfolding lifts_at
  lift_empty e = sym (rw (mark_empty (get_or cells p empty) (sym here ∙ e), lifts_at))

  module _ (full : get_or cells p 0 ≡ 4294967295 → ⊥) where
    is_filled : filled (get_or cells p empty) ≡ true
    is_filled = other_filled (get_or cells p empty) (λ e. full (here ∙ e))

    opened : lifts_at K g cells p ≡ ltb held (length g) && (leb (width K) p || (eqb (get_or cells (first_lower p) empty) held || not (is_leaf (get_or g held leaf))))
    unfolding lifts_at
    opened = rw (is_filled, lifts_at, here)

    module _ {n m : ℕ} (en : n ≡ pin_count gates) (em : m ≡ get_or cells p 0) where
      pins : length g ≡ n
      pins = graph_length gates ∙ sym en

      -- a pin that is not in the graph
      pub lift_past : n ≤ m → false ≡ lifts_at K g cells p
      lift_past h = sym (opened ∙ rw (le-ltb held (length g) (omega (arith, pins, em))))

      module _ (h : m < n) where
        inside : ltb held (length g) ≡ true
        inside = lt-ltb held (length g) (omega (arith, pins, em))

        module _ {w : ℕ} (ew : w ≡ or_zero (is_height K) (width K)) where
          wide : w ≡ width K
          wide = rw (A.height, or_zero_true (width K)) at ew

          -- one at level 0
          pub lift_load : w ≤ p → true ≡ lifts_at K g cells p
          lift_load k = sym (opened ∙ rw (inside, le-leb (width K) p (omega (arith, wide))))

          module _ (k : p < w) {a : ℕ} (ea : a ≡ first_lower p) where
            -- above it the first lower cell is in the stage
            pub first_inside : a < length cells
            first_inside = omega (arith, A.first (omega (arith, wide)))

            first : get_or cells a 0 ≡ get_or cells (first_lower p) empty
            first = rw ea (default_same cells (first_lower p) 0 empty (A.first (omega (arith, wide))))

            above : leb (width K) p ≡ false
            above = lt-leb (width K) p (omega (arith, wide))

            -- which holds the same pin
            pub lift_copy : get_or cells a 0 ≡ get_or cells p 0 → true ≡ lifts_at K g cells p
            lift_copy e = sym (opened ∙ rw (inside, above, eq-eqb (get_or cells (first_lower p) empty) held (sym first ∙ e)))

            -- or not: a gate drives it
            pub lift_and : (get_or cells a 0 ≡ get_or cells p 0 → ⊥) → {x : Node} → x ≡ get_or g (get_or cells p 0) leaf → {r : Bool} → r ≡ not (is_leaf x) → r ≡ lifts_at K g cells p
            lift_and e ex d = d ∙ rw ex (sym (opened ∙ rw (inside, above, ne_eqb (get_or cells (first_lower p) empty) held (λ z. e (first ∙ z)))))

-- ---- a stage

first_lower_in : (K p : ℕ) → p < 2 ^ K → first_lower p < 2 ^ (K + 1)
unfolding first_lower row_start log2 log_from
first_lower_in K zero h = omega (arith, two_step K)
first_lower_in K (suc p) h = let l = lower_cells K (suc p) (omega arith) h in omega (arith, l.next, l.inside)

length-up_to : (n i : ℕ) → length (up_to n i) ≡ n
unfolding up_to
length-up_to zero i = refl
length-up_to (suc n) i = ap suc (length-up_to n (suc i))

-- the positions from p on decide
pub record Going (K : ℕ) (gates cells : List ℕ) (p : ℕ) : Type 0 where
  pub upto : p ≤ length cells
  pub left : stage_lifts K (graph_of gates) cells ≡ every (lifts_at K (graph_of gates) cells) (drop p (up_to (2 ^ (K + 1)) 0))

module _ {K : ℕ} {cells : List ℕ} (A : StageAt K cells) (gates : List ℕ) where
  abbrev test : ℕ → Bool
  test = lifts_at K (graph_of gates) cells

  abbrev all : List ℕ
  all = up_to (2 ^ (K + 1)) 0

  many : length all ≡ length cells
  many = length-up_to (2 ^ (K + 1)) 0 ∙ sym A.size

  -- at the start all do
  pub going_all : Going K gates cells 0
  unfolding stage_lifts
  going_all = record { upto = omega arith; left = refl }

  module _ {p : ℕ} (G : Going K gates cells p) where
    module _ (h : p < length cells) where
      -- a position of the stage
      pub lift_asks : LiftAt K cells p
      lift_asks = record { height = A.height; here = h; first = λ b. omega (arith, A.size, first_lower_in K p b) }

      step : every test (drop p all) ≡ test p && every test (drop (p + 1) all)
      step =
          let z : get_or all p 0 ≡ p = get_or-up_to (2 ^ (K + 1)) 0 p 0 (omega (arith, A.size)) ∙ omega arith in
          every_step test all p (omega (arith, many)) ∙ rw z

      -- one that the graph cannot code decides
      pub going_no : lifts_at K (graph_of gates) cells p ≡ false → false ≡ stage_lifts K (graph_of gates) cells
      going_no e = sym (G.left ∙ step ∙ rw e)

      -- else those behind it do
      pub going_on : lifts_at K (graph_of gates) cells p ≡ true → Going K gates cells (p + 1)
      going_on e = record { upto = omega arith; left = G.left ∙ step ∙ rw e }

    -- none is left
    pub going_done : length cells ≤ p → true ≡ stage_lifts K (graph_of gates) cells
    going_done h = sym (G.left ∙ every_end test all p (omega (arith, many)))
