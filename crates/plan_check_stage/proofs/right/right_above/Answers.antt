-- `plan_check_stage::right::right_above` meets its contract. Assumes nothing.
use Rattle.plan_check_stage.proofs.Laws.Right.{above_copies, above_given, above_ands}
use Rattle.plan_check_stage.proofs.right.right_above.Goals as goal

pub returns-then-cell-pin : goal.returns-then-cell-pin
returns-then-cell-pin c = above_copies _ _ _ _ _ _ c.pin-pin.ensures c.if-cell-pin.true

pub returns-else-not-has_mark : goal.returns-else-not-has_mark
returns-else-not-has_mark c = rw c.if-not-has_mark.false (above_given _ _ _ _ _ _ c.pin-pin.ensures c.if-cell-pin.false _ c.has_mark.ensures c.if-not-has_mark.false)

pub splits-requires : goal.splits-requires
splits-requires c = c.requires

pub returns-then-not-has_mark : goal.returns-then-not-has_mark
returns-then-not-has_mark c = above_ands _ _ _ _ _ _ c.pin-pin.ensures c.if-cell-pin.false _ c.has_mark.ensures c.if-not-has_mark.true _ _ c.node_at.ensures c.splits.ensures
