use native.Mathlib.Omega.{arith}
use Rattle.mend_list.proofs.Laws.{written_none, change_here, written_same, next_room, written_other, written_all}
use Rattle.mend_list.proofs.write_changes.Goals as goal
use Rattle.mend_list.proofs.write_changes.Goals.{then-x-y, else-x-y}

pub loop-i-init : goal.loop-i-init
loop-i-init c = written_none _ _ _ _ c.requires

pub change_at-requires : goal.change_at-requires
change_at-requires c = change_here _ _ _ _ c.requires _ c.loop-i-test.true

pub put_change-requires : goal.put_change-requires
put_change-requires c = next_room _ _ _ _ c.requires _ _ _ c.loop-i.invariant c.loop-i-test.true c.if-x-y.true

pub overflow_add-at : goal.overflow_add-at
overflow_add-at c = omega (arith, next_room _ _ _ _ c.requires _ _ _ c.loop-i.invariant c.loop-i-test.true c.if-x-y.true, c.loop-i.invariant.len)

pub loop-i-preserved : goal.loop-i-preserved
loop-i-preserved c = elim c.if-x-y.branch [
  | then-x-y w ↦ rw (w.list-is, w.at-is) (written_other _ _ _ _ c.requires _ _ _ c.loop-i.invariant c.loop-i-test.true w.if-x-y.true _ w.change_at.ensures _ w.put_change.ensures)
  | else-x-y w ↦ rw (w.list-is, w.at-is) (written_same _ _ _ _ c.requires _ _ _ c.loop-i.invariant c.loop-i-test.true w.if-x-y.false)
]

pub shape_of-list : goal.shape_of-list
shape_of-list c = c.loop-i.invariant.len

pub returns : goal.returns
returns c = written_all _ _ _ _ c.requires _ _ _ c.loop-i.invariant c.loop-i-test.false
