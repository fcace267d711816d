-- One trial: the search, the placing and the taking back may go on, and leave all as it was. Assumes nothing.
use Prim.Native.Nat.{ℕ, ◌*◌, ◌^◌, ◌≤◌, ◌<◌}
use mathlib.Core.List.{List}
use native.Mathlib.Omega.{arith}
use Rattle.rules.proofs.Stage.Staged.{two_step}
use Rattle.rules.specs.Inside.Plans.{Placeable}
use Rattle.columns.specs.Area.{Room}
use Rattle.columns.proofs.Area.Frames.{frame_room}
use Rattle.stage_walk.specs.Stands.{Context}
use Rattle.stage_tree.specs.Search.{SearchAt, First}
use Rattle.stage_tree.specs.Bits.{PlaceAt, Placed, PurgeAt, Purged}
use Rattle.stage_tree.proofs.Counts.Sizes.{width_few}
use Rattle.stage_tree.proofs.Bits.Cells.{row_upper}
use Rattle.stage_tree.proofs.Bits.Standing.{may_choose, may_place, may_purge, placed_stands, purged_same}
use Rattle.try_trees.specs.Example.{Trial, Same}

module _ {C : Context} {m h w n : ℕ} {gates pl u : List ℕ} (T : Trial C m h w n gates pl u) where
  half : 2 * w ≤ 2 ^ C.X.K
  half = omega (arith, T.row, row_upper C.X.K h T.low T.high)

  -- the row ends by position 8,192
  pub end_small : 2 * w ≤ 8192
  end_small = omega (arith, half, width_few C)

  -- the row may be searched for an empty cell
  pub may_search : SearchAt pl w (2 * w)
  may_search = record { upto = omega arith; inside = omega (arith, half, T.stands.fair.len, two_step C.X.K) }

  module _ {p : ℕ} (F : First pl w (2 * w) p) (b : p < 2 * w) where
    able : Placeable C.X pl h p n
    able = may_choose T.stands T.row T.low T.high F b T.listed T.level

    -- at the one found the pin may be placed
    pub trial_place : PlaceAt C m h w p n gates pl u
    trial_place = may_place T.stands T.row able

    module _ {pl1 u1 : List ℕ} (B : Placed C m h w p n pl u pl1 u1) where
      -- the work area is as long as before
      pub placed_room : Room m u1
      placed_room = frame_room B.kept.frame T.stands.base.area

      -- the pin may be taken back
      pub trial_purge : PurgeAt C m h w p pl1 u1
      trial_purge = may_purge (placed_stands T.stands T.row able B) T.row p T.high F.from (omega arith)

      -- the work area is as long as before
      pub purged_room : {pl2 u2 : List ℕ} → Purged C m h w p pl1 u1 pl2 u2 → Room m u2
      purged_room Q = frame_room Q.kept.frame placed_room

      -- stage and area are as before the trial
      pub trial_same : {pl2 u2 : List ℕ} → Purged C m h w p pl1 u1 pl2 u2 → Same pl u pl2 u2
      trial_same Q = let e = purged_same T.stands T.row able B Q in record { stage = e.0; work = e.1 }
