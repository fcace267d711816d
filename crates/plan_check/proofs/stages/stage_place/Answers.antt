-- `plan_check::stages::stage_place` meets its contract. Assumes nothing.
use Rattle.plan_check.proofs.Laws.Stages.{says_cell, says_end, says_none}
use Rattle.plan_check.proofs.stages.stage_place.Goals as goal

pub returns-in-Some : goal.returns-in-Some
returns-in-Some c = says_cell _ _ _ _ _ _ _ _ _ _ c.in-Some.ensures

pub returns-then-end_right : goal.returns-then-end_right
returns-then-end_right c = says_none _ _ _ _ _ _ _ _ _ c.in_default.ensures _ c.end_right.ensures c.if-end_right.true

pub returns-else-end_right : goal.returns-else-end_right
returns-else-end_right c = says_end _ _ _ _ _ _ _ _ _ c.in_default.ensures _ c.end_right.ensures c.if-end_right.false
