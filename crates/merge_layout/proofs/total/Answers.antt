use native.Mathlib.Omega.{arith}
use Rattle.merge_layout.proofs.Laws.Gathers.{totalling_none, totalling_slot, totalling_more}
use Rattle.merge_layout.proofs.total.Goals as goal

pub loop-i-init : goal.loop-i-init
loop-i-init c = totalling_none

pub bounds-own-f : goal.bounds-own-f
bounds-own-f c = omega (arith, totalling_slot c.requires c.loop-i.invariant c.loop-i-test.true c.wide.ensures, c.requires.room)

pub loop-i-preserved : goal.loop-i-preserved
loop-i-preserved c = totalling_more c.requires c.loop-i.invariant c.loop-i-test.true c.wide.ensures c.wide-sum.ensures (omega (arith, c.wide-sum.ensures))
