-- `rows::row_span` meets its contract. Assumes nothing.
use native.Mathlib.Omega.{arith}
use mathlib.Core.Path.{sym, ◌∙◌}
use Rattle.rows.proofs.Rows.{rowed, stands, span_there, span_none}
use Rattle.rows.proofs.row_span.Goals as goal

pub overflow_sub-start : goal.overflow_sub-start
overflow_sub-start c = omega (arith, (rowed _ _ _ _ (sym c.has_row.ensures ∙ c.if-has_row.true)).from)

pub overflow_mul-start : goal.overflow_mul-start
overflow_mul-start c = omega (arith, (stands _ _ _ _ _ _ (sym c.has_row.ensures ∙ c.if-has_row.true) c.row_at-cells.ensures c.stage_size.ensures).inside)

pub overflow_add-start : goal.overflow_add-start
overflow_add-start c = omega (arith, (stands _ _ _ _ _ _ (sym c.has_row.ensures ∙ c.if-has_row.true) c.row_at-cells.ensures c.stage_size.ensures).inside)

pub overflow_add-result : goal.overflow_add-result
overflow_add-result c = omega (arith, (stands _ _ _ _ _ _ (sym c.has_row.ensures ∙ c.if-has_row.true) c.row_at-cells.ensures c.stage_size.ensures).inside)

pub returns-then-has_row : goal.returns-then-has_row
returns-then-has_row c = span_there _ _ _ _ _ _ (sym c.has_row.ensures ∙ c.if-has_row.true) c.row_at-cells.ensures c.stage_size.ensures

pub returns-else-has_row : goal.returns-else-has_row
returns-else-has_row c = span_none _ _ _ _ (sym c.has_row.ensures ∙ c.if-has_row.false)
