-- `plan_check_stage::marks::has_mark` meets its contract. Assumes nothing.
use borrow.Author.Tests.{le-ltb}
use Rattle.plan_check_stage.proofs.Laws.Marks.{mark_past, mark_there}
use Rattle.plan_check_stage.proofs.marks.has_mark.Goals as goal

pub returns-then-i-marks : goal.returns-then-i-marks
returns-then-i-marks c = mark_there _ _ _ c.index-i.ensures

pub returns-else-i-marks : goal.returns-else-i-marks
returns-else-i-marks c = rw (le-ltb _ _ c.if-i-marks.false) (mark_past _ _ _ c.index-i.ensures c.if-i-marks.false)
