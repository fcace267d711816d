use native.Mathlib.Omega.{arith}
use Rattle.mend_list.proofs.Laws.{counted_none, counted_same, counted_other, counted_all}
use Rattle.mend_list.proofs.count_changes.Goals as goal
use Rattle.mend_list.proofs.count_changes.Goals.{then-x-new, else-x-new}

pub loop-i-init : goal.loop-i-init
loop-i-init c = counted_none _ _ c.requires

pub overflow_add-n : goal.overflow_add-n
overflow_add-n c = omega (arith, c.loop-i.invariant.few, c.loop-i.invariant.upto)

pub loop-i-preserved : goal.loop-i-preserved
loop-i-preserved c = elim c.if-x-new.branch [
  | then-x-new w ↦ rw w.n-is (counted_other _ _ c.requires _ _ c.loop-i.invariant c.loop-i-test.true w.if-x-new.true)
  | else-x-new w ↦ rw w.n-is (counted_same _ _ c.requires _ _ c.loop-i.invariant c.loop-i-test.true w.if-x-new.false)
]

pub returns : goal.returns
returns c = counted_all _ _ c.requires _ _ c.loop-i.invariant c.loop-i-test.false
