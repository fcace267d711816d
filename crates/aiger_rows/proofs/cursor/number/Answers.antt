-- `aiger_rows::cursor::number` meets its contract. Assumes nothing.
use mathlib.Core.Path.{sym, ap, ◌∙◌}
use native.Mathlib.Omega.{arith}
use Rattle.aiger_rows.specs.Cursor.{capped_found}
use Rattle.aiger_rows.proofs.Laws.Cursor.{numeral_nothing, number_none, number_zero, number_digits}
use Rattle.aiger_rows.proofs.cursor.number.Goals.{else-word-gt1-via-then-word-gt1+else-word-eq48, else-word-gt1-via-else-word-gt1}
use Rattle.aiger_rows.proofs.cursor.number.Goals as goal

pub returns-then-word-eq0 : goal.returns-then-word-eq0
returns-then-word-eq0 c = numeral_nothing _ (number_none _ c.if-word-eq0.true)

pub returns-then-word-eq48 : goal.returns-then-word-eq48
returns-then-word-eq48 c = numeral_nothing _ (number_zero _ c.if-word-gt1.true c.if-word-eq48.true)

pub returns : goal.returns
returns c = c.digits.ensures ∙ ap capped_found (sym (number_digits _ c.if-word-eq0.false (λ h d. elim c.else-word-gt1.branch [
  | else-word-gt1-via-then-word-gt1+else-word-eq48 w ↦ w.if-word-eq48.false d
  | else-word-gt1-via-else-word-gt1 w ↦ omega arith
])))
