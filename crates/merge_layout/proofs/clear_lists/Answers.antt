use native.Mathlib.Omega.{arith}
use Rattle.merge_layout.proofs.Laws.Tables.{cleared_more}
use Rattle.merge_layout.proofs.clear_lists.Goals as goal

pub loop-i-preserved : goal.loop-i-preserved
loop-i-preserved c = (cleared_more c.requires c.loop-i.invariant.0 c.loop-i-test.true, omega arith)
