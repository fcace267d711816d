use native.Mathlib.Omega.{arith}
use Rattle.replay_run.proofs.Laws.Leaves.{leaves_none, leaves_more, leaves_done}
use Rattle.replay_run.proofs.leaves.put_leaves.Goals as goal

pub loop-p-init : goal.loop-p-init
loop-p-init c = leaves_none _ _ _ c.requires

pub loop-p-preserved : goal.loop-p-preserved
loop-p-preserved c = leaves_more _ _ _ c.requires _ _ _ c.loop-p.invariant (omega (arith, c.loop-p-test.true, c.pin_count-pins.ensures)) _ c.line_leaf-leaf.ensures _ _ c.put_leaf-n.ensures

pub returns : goal.returns
returns c = leaves_done _ _ _ c.requires _ _ _ c.loop-p.invariant (omega (arith, c.loop-p-test.false, c.pin_count-pins.ensures))
