-- `rows::has_row` meets its contract. Assumes nothing.
use native.Mathlib.Omega.{arith}
use mathlib.Core.Logic.{inl, inr}
use mathlib.Core.Path.{sym, ◌∙◌}
use Rattle.rows.proofs.Rows.{row_roomed, row_none}
use Rattle.rows.proofs.has_row.Goals as goal

pub returns-then-stage-eq0 : goal.returns-then-stage-eq0
returns-then-stage-eq0 c = row_none _ _ _ _ (inl c.if-stage-eq0.true)

pub returns-then-has_level : goal.returns-then-has_level
returns-then-has_level c = row_roomed _ _ _ _ _ (omega arith) (sym c.has_level.ensures ∙ c.if-has_level.true) c.rooms.ensures

pub returns-else-has_level : goal.returns-else-has_level
returns-else-has_level c = row_none _ _ _ _ (inr (sym c.has_level.ensures ∙ c.if-has_level.false))
