-- The invariants: placing and taking back keep them, and taking back gives back stage and counts. Assumes nothing.
use Prim.Native.Nat.{ℕ, suc, ◌+◌, ◌*◌, ◌^◌, ◌≤◌, ◌<◌}
use mathlib.Core.Path.{◌≡◌, refl, sym, ap, ◌∙◌}
use mathlib.Core.Bool.{Bool, false}
use mathlib.Core.List.{List, [], ◌∷◌}
use native.Mathlib.Omega.{arith}
use lib.Dec.{eqb}
use lib.ListN.{length, get_or, take, drop, replicate}
use borrow.Author.Tests.{ne_eqb}
use Rattle.rules.specs.Lists.{count, In}
use Rattle.rules.specs.Cells.{empty, filled, row, row_at}
use Rattle.rules.specs.Traversal.{level_at}
use Rattle.rules.specs.Placing.{cell_at, placed}
use Rattle.rules.specs.Inside.Lean.{blank, cells_holding}
use Rattle.rules.proofs.Stage.Runs.{blank_take, blank_drop}
use Rattle.rules.proofs.Stage.Flat.{blank_replicate}
use Rattle.rules.specs.Inside.Plans.{Placeable}
use Rattle.rules.proofs.Tree.Invariant.{row_empty}
use Rattle.rules.proofs.Tree.Fair.{bare, fair_first, fair_kept}
use Rattle.rules.proofs.Tree.Back.{taken_back, not_filled}
use Rattle.rules.proofs.Tree.Cost.{same_number, none_filled}
use Rattle.rules.proofs.Lean.Turns.{blank_tree}
use Rattle.columns.specs.Area.{among, Frame}
use Rattle.columns.specs.Fields.{LEVEL, CELLS, TAIL, ONES, PINS, FILLED}
use Rattle.stage_walk.specs.Stands.{Context, Base, Levelled}
use Rattle.stage_walk.proofs.Contexts.{work}
use Rattle.stage_tree.specs.Bits.{Spot, BitPlaced, BitPurged, PlaceAt, Placed, PurgeAt, Purged, Standing}
use Rattle.stage_tree.specs.Search.{First}
use Rattle.stage_tree.proofs.Counts.Kept.{base_frame, levelled_frame, tally_frame, counts, kept_none, kept_then, one_area}
use Rattle.stage_tree.proofs.Search.{cell_found}

module _ {C : Context} {m h : ℕ} {gates pl u : List ℕ} (A : Standing C m h gates pl u) {w : ℕ} (row : w ≡ row_at C.X.K h) where
  -- a cell of the level
  spot : (p : ℕ) → h ≤ C.X.K → row_at C.X.K h ≤ p → p < row_at C.X.K h + row_at C.X.K h → Spot C m h p pl u
  spot p a b c = record { area = A.base.area; size = A.base.size; tally = counts A.tally; len = A.fair.len; high = a; from = b; to = c }

  -- any cell of the level may be taken back
  pub may_purge : (p : ℕ) → h ≤ C.X.K → w ≤ p → p < w + w → PurgeAt C m h w p pl u
  may_purge p a b c = record { back = record { spot = spot p a (omega arith) (omega arith); row = row; tall = A.fair.tall }; total = A.tally.total }

  -- rule 4's cell, and a pin of the level
  pub may_choose : {p n : ℕ} → 1 ≤ h → h ≤ C.X.K → First pl w (2 * w) p → p < 2 * w → In n C.X.seen → level_at C.X n ≡ h → Placeable C.X pl h p n
  unfolding cell_at
  may_choose {p} {n} low high F b i l =
      let c = row_empty C.X.K h pl p (cell_found C.X h w row pl p F b) in
      record { low = low; high = high; row = c.0; end = c.1; free = c.2; listed = i; level = omega (arith, l) }

  module _ {p n : ℕ} (P : Placeable C.X pl h p n) where
    -- a pin may be placed at an empty cell of the level
    pub may_place : PlaceAt C m h w p n gates pl u
    may_place = record {
      bit = record {
        spot = spot p P.high P.row P.end;
        base = A.base;
        levelled = A.levelled;
        row = row;
        under = rw row (bare (work C) h p n A.fair P);
        listed = P.listed;
      };
      total = A.tally.total;
    }

    -- for the same pin and cell taking back reports what placing did: no proof needs it, docs/PROMISES.md promises it
    pub same_report : {k j : ℕ} {pl1 u1 v pl2 v2 : List ℕ} → BitPlaced C m h w p n k pl u pl1 u1 → BitPurged C m h w p j pl1 v pl2 v2 → j ≡ k
    unfolding placed
    same_report B Q = Q.cells ∙ rw (B.plan, row) (same_number (work C) h p n A.fair P) ∙ sym B.cells

    module _ {pl1 u1 : List ℕ} (B : Placed C m h w p n pl u pl1 u1) where
      -- what placing leaves is the rules' plan
      pub placed_plan : pl1 ≡ placed C.X h p n pl
      unfolding placed
      placed_plan = B.plan ∙ rw row refl

      -- the invariants hold after placing
      pub placed_stands : Standing C m h gates pl1 u1
      placed_stands = record {
        base = base_frame B.kept.frame A.base;
        levelled = levelled_frame B.kept.frame refl A.levelled;
        tally = B.tally;
        fair = rw placed_plan (fair_kept (work C) h p n A.fair P);
      }

      -- whatever happened to other columns in between
      pub purged_plan : {v pl2 v2 : List ℕ} → Purged C m h w p pl1 v pl2 v2 → pl2 ≡ pl
      purged_plan Q = Q.plan ∙ rw (placed_plan, row) (taken_back (work C) h p n A.fair P)

      -- purging the cell just placed gives back the very stage and area
      pub purged_same : {pl2 u2 : List ℕ} → Purged C m h w p pl1 u1 pl2 u2 → (pl2 ≡ pl) × (u2 ≡ u)
      purged_same Q = let e = purged_plan Q in (e, one_area (kept_then B.kept Q.kept) kept_none (rw e at Q.tally) A.tally)

-- the invariants before anything is placed
count_none : (f : ℕ → Bool) (cs : List ℕ) → ((i : ℕ) → f (get_or cs i empty) ≡ false) → count f cs ≡ 0
unfolding count
count_none f [] h = refl
count_none f (c ∷ cs) h = rw (h 0, count) (count_none f cs (λ i. h (suc i)))

module _ (C : Context) (m h : ℕ) (gates u : List ℕ) (B : Base C m gates u) (L : Levelled C m u) where
  abbrev pl0 : List ℕ
  pl0 = replicate (2 ^ (C.X.K + 1)) empty

  pin_filled : (x : ℕ) → x < m → eqb empty x ≡ false
  unfolding empty
  pin_filled x b = ne_eqb empty x (λ e. omega (arith, B.area.small))

  no_cells : (x : ℕ) → x < m → cells_holding C.X.K pl0 x ≡ 0
  unfolding cells_holding
  no_cells x b = count_none (λ c. eqb c x) (take (2 ^ C.X.K) pl0) (λ i. rw (not_filled _ (blank_take (2 ^ C.X.K) pl0 (blank_replicate (2 ^ (C.X.K + 1))) i)) (pin_filled x b))

  no_ones : count filled (row C.X.K 1 pl0) ≡ 0
  unfolding row
  no_ones = count_none filled _ (blank_take (row_at C.X.K 1) (drop (row_at C.X.K 1) pl0) (blank_drop (row_at C.X.K 1) pl0 (blank_replicate (2 ^ (C.X.K + 1)))))

  -- the invariants hold of the empty stage with counts of 0
  pub first_stands : ((x : ℕ) → x < m → get_or u (CELLS * m + x) 0 ≡ 0) → get_or u (16 * m + ONES) 0 ≡ 0 → get_or u (16 * m + PINS) 0 ≡ 0 → get_or u (16 * m + FILLED) 0 ≡ 0 →
      Standing C m h gates (blank C.X) u
  unfolding blank
  first_stands c o p t = record {
    base = B;
    levelled = L;
    tally = record { cells = λ x b. c x b ∙ sym (no_cells x b); ones = o ∙ sym no_ones; pins = p ∙ ap length (sym (blank_tree C.X)); total = t ∙ sym (none_filled (2 ^ (C.X.K + 1))) };
    fair = fair_first (work C) h;
  }

-- other columns change
pub stands_frame : {fs : List ℕ} {C : Context} {m h : ℕ} {gates pl u u' : List ℕ} → Frame fs m u u' → among fs LEVEL ≡ false → among fs CELLS ≡ false → among fs TAIL ≡ false →
    Standing C m h gates pl u → Standing C m h gates pl u'
stands_frame f l c t A = record { base = base_frame f A.base; levelled = levelled_frame f l A.levelled; tally = tally_frame f c t A.tally; fair = A.fair }
