-- `sizes::plan_sized` meets its contract. Assumes nothing.
use Rattle.rules.proofs.Bools.{no, yes}
use Rattle.sizes.proofs.Rooms.{no_height, stage_there, plan_tested}
use lib.Pow.{pow_pos}
use Rattle.sizes.proofs.plan_sized.Goals as goal

pub returns-then-not-is_height : goal.returns-then-not-is_height
returns-then-not-is_height c = no_height _ _ (no c.is_height.ensures c.if-not-is_height.true-raw)

pub nonzero_rem-result : goal.nonzero_rem-result
nonzero_rem-result c = rw (stage_there _ _ (yes c.is_height.ensures c.if-not-is_height.false-raw) c.stage_size.ensures) (pow_pos _)

pub returns : goal.returns
returns c = plan_tested _ _ _ (yes c.is_height.ensures c.if-not-is_height.false-raw) c.stage_size.ensures
