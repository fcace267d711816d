-- Rule 9 pin by pin. Assumes nothing.
use mathlib.Core.Path.{◌≡◌, refl, sym, ap, ◌∙◌}
use mathlib.Core.Bool.{Bool, true, false, not, ◌||◌}
use mathlib.Core.List.{List, ◌∷◌}
use Prim.Native.Nat.{ℕ, ◌+◌, ◌*◌, ◌<◌, ◌≤◌}
use native.Mathlib.Omega.{arith}
use native.Mathlib.Numerals.{add-one}
use lib.Dec.{eqb}
use lib.ListN.{length, get_or}
use Rattle.rules.specs.Lists.{found, mem}
use Rattle.rules.specs.Cells.{row_at, row, first_empty}
use Rattle.rules.specs.Placing.{tree, cell_at, placed}
use Rattle.rules.specs.Ending.{put_rest}
use Rattle.rules.proofs.Stage.Staged.{two_step, half_height}
use Rattle.rules.proofs.Stage.Branches.{rest_skip, rest_full, rest_put}
use Rattle.rules.specs.Inside.Plans.{Placeable}
use Rattle.rules.proofs.Tree.Invariant.{row_empty}
use Rattle.rules.proofs.Tree.Held.{length_place1}
use Rattle.rules.proofs.Tree.Tally.{tree_cells}
use Rattle.rules.proofs.Tree.Fair.{listed_filled}
use Rattle.rules.proofs.Tree.Cursor.{behind_first, behind_placed}
use Rattle.columns.specs.Fields.{CELLS, NEEDED, MARK}
use Rattle.columns.specs.Lists.{list, span, Marks}
use Rattle.columns.proofs.Lists.Entries.{span_none, span_next, holds_in_lem}
use Rattle.columns.proofs.Lists.Marks.{marks_test, marks_frame}
use Rattle.stage_walk.specs.Stands.{Context}
use Rattle.stage_walk.proofs.Contexts.{work}
use Rattle.stage_tree.specs.Bits.{PlaceAt, Placed}
use Rattle.stage_tree.specs.Search.{SearchAt, First, Cursor}
use Rattle.stage_tree.proofs.Counts.Kept.{kept_none, kept_then}
use Rattle.stage_tree.proofs.Bits.Standing.{may_place, placed_stands, placed_plan}
use Rattle.stage_tree.proofs.Search.{cell_found, cell_none, cursor_search, cursor_first, cursor_behind}
use Rattle.stage_runs.proofs.Laws.Plain.{not_zero, row_high}
use Rattle.stage_runs.proofs.Laws.Classes.{or_some}
use Rattle.stage_ending.specs.Rest.{PinAt, Pinned, RestAt, Resting, answer, Rested}

module _ {C : Context} {m half from p : ℕ} {gates pl w : List ℕ} (A : PinAt C m half from p gates pl w) where
  low_height : 1 ≤ C.X.K
  low_height = omega (arith, C.low)

  -- the pin is one of the area
  pub pin_below : p < m
  pin_below = omega (arith, C.S.bound p A.listed, A.stands.base.size)

  -- level 1 ends by position 8,192
  pub half_few : 2 * half ≤ 8192
  half_few = rw A.row (row_high C.X.K 1 (omega arith) low_height C.high)

  inside : 2 * half ≤ length pl
  inside = omega (arith, A.row, A.stands.fair.len, two_step C.X.K, half_height C.X.K low_height)

  -- the pin needs no cell
  skips : ((real : List ℕ) → Marks MARK m real w → mem p real || mem p (tree C.X.K pl) ≡ true) → Pinned C m half p gates pl w from pl w
  skips t = record {
    kept = kept_none;
    size = refl;
    stands = A.stands;
    low = A.low;
    none = λ h. absurd (omega (arith, A.high));
    some = λ h real M ps. rest_skip C.X p ps real pl (t real M);
    behind = λ h. A.behind;
  }

  module _ {b : Bool} (is_real : b ≡ not (eqb (get_or w (MARK * m + p) 0) 0)) where
    -- a realised pin needs no cell
    pub skip_real : b ≡ true → Pinned C m half p gates pl w from pl w
    skip_real t = skips (λ real M. let e : mem p real ≡ true = sym (is_real ∙ marks_test M p pin_below) ∙ t in rw e refl)

    module _ {d : Bool} (is-tree : d ≡ not (eqb (get_or w (CELLS * m + p) 0) 0)) where
      tree_test : d ≡ mem p (tree C.X.K pl)
      tree_test =
          is-tree ∙ rw (A.stands.tally.cells p pin_below, not_zero)
          (sym (tree_cells C.X.K pl p (listed_filled (work C) p A.listed)))

      -- a pin in the tree needs no cell either
      pub skip_tree : d ≡ true → Pinned C m half p gates pl w from pl w
      skip_tree t = skips (λ real M. let e : mem p (tree C.X.K pl) ≡ true = sym tree_test ∙ t in rw e (or_some (mem p real)))

      cursor : Cursor C.X 1 half from pl
      cursor = record { row = A.row; low = A.low; high = A.high; inside = inside; behind = A.behind }

      -- any other looks for a cell, from where the last search ended
      pub pin_search : SearchAt pl from (2 * half)
      pin_search = cursor_search cursor

      module _ (nr : b ≡ false) (nt : d ≡ false) where
        unplaced : (real : List ℕ) → Marks MARK m real w → mem p real || mem p (tree C.X.K pl) ≡ false
        unplaced real M =
            let e : mem p real ≡ false = sym (is_real ∙ marks_test M p pin_below) ∙ nr in
            let f : mem p (tree C.X.K pl) ≡ false = sym tree_test ∙ nt in
            rw (e, f) refl

        module _ {c : ℕ} (F : First pl from (2 * half) c) where
          first : First pl half (2 * half) c
          first = cursor_first cursor F

          -- no cell left: rule 9 fails
          pub pin_full : 2 * half ≤ c → Pinned C m half p gates pl w (c + 1) pl w
          unfolding cell_at
          pin_full h = record {
            kept = kept_none;
            size = refl;
            stands = A.stands;
            low = omega arith;
            none = λ b real M ps. rest_full C.X p ps real pl (unplaced real M) (cell_none C.X 1 half A.row pl c first h);
            some = λ b. absurd (omega arith);
            behind = λ b. absurd (omega arith);
          }

          module _ (h : c < 2 * half) where
            is_first : first_empty (row_at C.X.K 1) (row C.X.K 1 pl) ≡ found c
            unfolding cell_at
            is_first = cell_found C.X 1 half A.row pl c first h

            may : Placeable C.X pl 1 c p
            may = let t = row_empty C.X.K 1 pl c is_first in record { low = omega arith; high = low_height; row = t.0; end = t.1; free = t.2; listed = A.listed; level = A.level }

            -- an empty cell may take it
            pub pin_place : PlaceAt C m 1 half c p gates pl w
            pin_place = may_place A.stands A.row may

            -- the lowest empty cell takes the pin
            pub pin_placed : {pl1 w1 : List ℕ} → Placed C m 1 half c p pl w pl1 w1 → Pinned C m half p gates pl w (c + 1) pl1 w1
            unfolding placed
            pin_placed B = record {
              kept = B.kept;
              size = rw B.plan (length_place1 C.X half c p pl);
              stands = placed_stands A.stands A.row may B;
              low = omega (arith, first.from);
              none = λ b. absurd (omega arith);
              some = λ b real M ps. rest_put C.X p ps real pl c (unplaced real M) is_first ∙ rw (placed_plan A.stands A.row may B) refl;
              behind = λ b. rw (placed_plan A.stands A.row may B, add-one c) (behind_placed (work C) 1 low_height pl c p A.stands.fair may (cursor_behind cursor F h) (omega (arith, inside)));
            }

-- ---- all of them

module _ {C : Context} {m half n : ℕ} {gates pl w : List ℕ} (A : RestAt C m half n gates pl w) where
  all_pins : list NEEDED m n w ≡ span NEEDED m 0 n w
  unfolding span
  all_pins = refl

  -- before the first needed pin nothing is placed
  pub resting_none : Resting C m half n 0 half gates pl w pl w
  resting_none = record {
    upto = omega arith;
    kept = kept_none;
    size = refl;
    stands = A.stands;
    low = omega arith;
    high = omega arith;
    behind = rw A.row (behind_first C.X 1 pl);
    same = λ real M. ap (λ (ps : List ℕ). put_rest C.X ps real pl) all_pins;
  }

  module _ {i from : ℕ} {pl1 w1 : List ℕ} (B : Resting C m half n i from gates pl w pl1 w1) where
    -- past the last all have their cells
    pub resting_done : n ≤ i → Rested C m n gates pl w true pl1 w1
    unfolding answer put_rest
    resting_done h = record { kept = B.kept; size = B.size; stands = B.stands; is = λ real M. B.same real M ∙ rw (span_none NEEDED m i n w A.needed.few h) refl }

    module _ (h : i < n) {p : ℕ} (is_pin : p ≡ get_or w1 (NEEDED * m + i) 0) where
      pin_is : p ≡ get_or w (NEEDED * m + i) 0
      pin_is = is_pin ∙ B.kept.frame.cell NEEDED refl (omega arith) i (omega (arith, A.needed.few))

      next_is : span NEEDED m i n w ≡ p ∷ span NEEDED m (i + 1) n w
      next_is = rw pin_is (span_next NEEDED m i n w A.needed.few h)

      -- the next one may look for its cell
      pub resting_pin : PinAt C m half from p gates pl1 w1
      resting_pin =
          let t = A.pins (get_or w (NEEDED * m + i) 0) (holds_in_lem A.needed i h) in
          record { stands = B.stands; row = A.row; low = B.low; high = B.high; behind = B.behind; listed = rw pin_is t.0; level = rw pin_is t.1 }

      module _ {e : ℕ} {pl2 w2 : List ℕ} (D : Pinned C m half p gates pl1 w1 e pl2 w2) where
        marks : (real : List ℕ) → Marks MARK m real w → Marks MARK m real w1
        marks real M = marks_frame M B.kept.frame refl (omega arith)

        -- a needed pin without a cell ends rule 9
        pub resting_full : 2 * half < e → Rested C m n gates pl w false pl2 w2
        unfolding answer
        resting_full b = record {
          kept = kept_then B.kept D.kept;
          size = D.size ∙ B.size;
          stands = D.stands;
          is = λ real M. B.same real M ∙ rw next_is (D.none b real (marks real M) (span NEEDED m (i + 1) n w));
        }

        -- one more needed pin has its cell
        pub resting_more : e ≤ 2 * half → Resting C m half n (i + 1) e gates pl w pl2 w2
        resting_more b = record {
          upto = omega arith;
          kept = kept_then B.kept D.kept;
          size = D.size ∙ B.size;
          stands = D.stands;
          low = D.low;
          high = b;
          behind = D.behind b;
          same = λ real M. B.same real M ∙ rw next_is (D.some b real (marks real M) (span NEEDED m (i + 1) n w));
        }
