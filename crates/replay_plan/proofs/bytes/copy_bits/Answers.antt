use native.Mathlib.Omega.{arith}
use Rattle.replay_plan.proofs.Laws.Bytes.{filled_none, filled_more, copied}
use Rattle.replay_plan.proofs.bytes.copy_bits.Goals as goal

pub loop-i-init : goal.loop-i-init
loop-i-init c = filled_none _ _

pub bounds-to-i : goal.bounds-to-i
bounds-to-i c = omega (arith, c.loop-i.invariant.len, c.loop-i-test.true, c.requires)

pub loop-i-smaller : goal.loop-i-smaller
loop-i-smaller c = omega (arith, c.loop-i-test.true)

pub loop-i-preserved : goal.loop-i-preserved
loop-i-preserved c = filled_more _ _ _ _ c.loop-i.invariant (omega (arith, c.loop-i.invariant.len, c.loop-i-test.true, c.requires)) _ c.bit.ensures

pub shape_of-to : goal.shape_of-to
shape_of-to c = c.loop-i.invariant.len

pub returns : goal.returns
returns c = copied _ _ c.requires _ _ c.loop-i.invariant c.loop-i-test.false
