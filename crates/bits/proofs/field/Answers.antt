use Prim.Native.Nat.{◌-◌}
use native.Mathlib.Omega.{arith}
use Rattle.bits.proofs.Laws.Fields.{summed_none, summed_more, summed_done}
use Rattle.bits.proofs.field.Goals as goal

pub loop-i-init : goal.loop-i-init
loop-i-init c = summed_none c.requires

pub overflow_add-n : goal.overflow_add-n
overflow_add-n c = omega (arith, (summed_more c.requires c.loop-i.invariant c.loop-i-test.true _ c.bit.ensures).small)

pub loop-i-preserved : goal.loop-i-preserved
loop-i-preserved c = summed_more c.requires c.loop-i.invariant c.loop-i-test.true _ c.bit.ensures

pub returns : goal.returns
returns c = summed_done c.requires c.loop-i.invariant c.loop-i-test.false
