-- `checks::operand_right` meets its contract. Assumes nothing.
use mathlib.Core.Path.{◌∙◌}
use Rattle.checks.proofs.Laws.Gates.{operand_zero, operand_below}
use Rattle.checks.proofs.operand_right.Goals as goal

pub returns-then-q-eq0 : goal.returns-then-q-eq0
returns-then-q-eq0 c = operand_zero _ _ _ (c.index-q.ensures ∙ c.pin_of.ensures) c.if-q-eq0.true

pub returns : goal.returns
returns c = operand_below _ _ _ (c.index-q.ensures ∙ c.pin_of.ensures) c.if-q-eq0.false
