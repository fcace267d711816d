use Rattle.mend_levels.proofs.Laws.{passed_none, next_inside, passed_other, passed_same, passed_all}
use Rattle.mend_levels.proofs.pass.Goals as goal
use Rattle.mend_levels.proofs.pass.Goals.{then-levels-p, else-levels-p}

pub loop-p-init : goal.loop-p-init
loop-p-init c = passed_none _ _ _ c.requires _

pub bounds-levels-p : goal.bounds-levels-p
bounds-levels-p c = (next_inside _ _ _ c.requires _ _ _ _ c.loop-p.invariant _ c.pin_count-m.ensures c.loop-p-test.true).1

pub bounds-levels-p-then-levels-p : goal.bounds-levels-p-then-levels-p
bounds-levels-p-then-levels-p c = (next_inside _ _ _ c.requires _ _ _ _ c.loop-p.invariant _ c.pin_count-m.ensures c.loop-p-test.true).1

pub loop-p-preserved : goal.loop-p-preserved
loop-p-preserved c = elim c.if-levels-p.branch [
  | then-levels-p w ↦ rw (w.levels-is, w.changed-is) (passed_other _ _ _ c.requires _ _ _ _ c.loop-p.invariant _ c.pin_count-m.ensures c.loop-p-test.true _ c.level_by-v.ensures)
  | else-levels-p w ↦ rw (w.levels-is, w.changed-is) (passed_same _ _ _ c.requires _ _ _ _ c.loop-p.invariant _ c.pin_count-m.ensures c.loop-p-test.true _ c.level_by-v.ensures w.if-levels-p.false)
]

pub shape_of-levels : goal.shape_of-levels
shape_of-levels c = c.loop-p.invariant.len

pub returns : goal.returns
returns c = passed_all _ _ _ c.requires _ _ _ _ c.loop-p.invariant _ c.pin_count-m.ensures c.loop-p-test.false
