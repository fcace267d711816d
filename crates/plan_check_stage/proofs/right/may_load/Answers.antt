-- `plan_check_stage::right::may_load` meets its contract. Assumes nothing.
use Rattle.plan_check_stage.proofs.Laws.Right.{loads_later, loads_given, loads_leaf}
use Rattle.plan_check_stage.proofs.right.may_load.Goals as goal

pub returns-then-has_mark : goal.returns-then-has_mark
returns-then-has_mark c = rw c.if-has_mark.true (loads_given _ _ _ _ _ c.if-first.true _ c.has_mark.ensures c.if-has_mark.true)

pub returns-else-has_mark : goal.returns-else-has_mark
returns-else-has_mark c = loads_leaf _ _ _ _ _ c.if-first.true _ c.has_mark.ensures c.if-has_mark.false _ c.is_leaf.ensures

pub returns-else-first : goal.returns-else-first
returns-else-first c = loads_later _ _ _ _ _ c.if-first.false _ c.has_mark-else-first.ensures
