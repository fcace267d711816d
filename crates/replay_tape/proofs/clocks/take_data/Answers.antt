use native.Mathlib.Omega.{arith}
use Rattle.replay_tape.proofs.Laws.Clocks.{taken_none, flip_inside, taken_more, taken_done}
use Rattle.replay_tape.proofs.clocks.take_data.Goals as goal

pub loop-i-init : goal.loop-i-init
loop-i-init c = taken_none _ _ _ c.requires

pub bounds-out-j : goal.bounds-out-j
bounds-out-j c = omega (arith, flip_inside _ _ _ c.requires _ c.loop-i-test.true _ c.wide-j.ensures)

pub overflow_add-j : goal.overflow_add-j
overflow_add-j c = omega (arith, flip_inside _ _ _ c.requires _ c.loop-i-test.true _ c.wide-j.ensures)

pub bounds-out-j-in-loop-i : goal.bounds-out-j-in-loop-i
bounds-out-j-in-loop-i c = omega (arith, flip_inside _ _ _ c.requires _ c.loop-i-test.true _ c.wide-j.ensures)

pub loop-i-preserved : goal.loop-i-preserved
loop-i-preserved c = taken_more _ _ _ c.requires _ c.loop-i-test.true _ c.wide-j.ensures _ c.loop-i.invariant _ c.picked.ensures

pub returns : goal.returns
returns c = taken_done _ _ _ c.requires _ _ c.loop-i.invariant c.loop-i-test.false
