use native.Mathlib.Omega.{arith}
use Rattle.replay_run.proofs.Laws.Leaves.{marked_none, marked_more, marked_done}
use Rattle.replay_run.proofs.leaves.mark_driven.Goals as goal

pub loop-i-init : goal.loop-i-init
loop-i-init c = marked_none _ _

pub offset_bounds-driven-i : goal.offset_bounds-driven-i
offset_bounds-driven-i c = omega (arith, c.loop-i.invariant.upto)

pub bounds-driven-i : goal.bounds-driven-i
bounds-driven-i c = omega (arith, c.loop-i.invariant.upto)

pub loop-i-smaller : goal.loop-i-smaller
loop-i-smaller c = omega arith

pub loop-i-preserved : goal.loop-i-preserved
loop-i-preserved c = rw c.put_inside.ensures (marked_more _ _ _ _ c.loop-i.invariant c.loop-i-test.true _ c.wide.ensures)

pub shape_of-marks : goal.shape_of-marks
shape_of-marks c = omega (arith, c.loop-i.invariant.marked.len)

pub returns : goal.returns
returns c = marked_done _ _ _ _ c.loop-i.invariant c.loop-i-test.false
