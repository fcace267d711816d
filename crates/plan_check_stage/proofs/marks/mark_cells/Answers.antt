use Rattle.plan_check_stage.proofs.Laws.Marks.{marks_none, marks_pass, marks_more, marks_done}
use Rattle.plan_check_stage.proofs.marks.mark_cells.Goals as goal
use Rattle.plan_check_stage.proofs.marks.mark_cells.Goals.{then-p-marks, else-p-marks}

pub loop-c-init : goal.loop-c-init
loop-c-init c = marks_none _ _ _

pub loop-c-preserved : goal.loop-c-preserved
loop-c-preserved c = elim c.if-p-marks.branch [
  | then-p-marks w ↦ rw w.marks-is (marks_more _ _ _ _ _ c.loop-c.invariant c.loop-c-test.true _ _ c.index-p.ensures c.pin.ensures w.if-p-marks.true)
  | else-p-marks w ↦ rw w.marks-is (marks_pass _ _ _ _ _ c.loop-c.invariant c.loop-c-test.true _ _ c.index-p.ensures c.pin.ensures w.if-p-marks.false)
]

pub shape_of-marks : goal.shape_of-marks
shape_of-marks c = c.loop-c.invariant.len

pub returns : goal.returns
returns c = marks_done _ _ _ _ _ c.loop-c.invariant c.loop-c-test.false
