use Rattle.stage_walk.proofs.traversal.Loops.{went_top}
use Rattle.stage_walk.proofs.traversal.run.Goals as goal

pub step-at-requires : goal.step-at-requires
step-at-requires c = let s = c.requires in record { it = s.it; at = went_top (c.loop-at.invariant.0.all s.it s.at) c.loop-at-test.true }
