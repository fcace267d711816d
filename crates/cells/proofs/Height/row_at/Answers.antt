-- `cells::Height::row_at` meets its contract. Assumes nothing.
use mathlib.Core.Path.{sym, ◌∙◌}
use native.Mathlib.Omega.{arith}
use Rattle.rules.specs.Cells.{row_at}
use Rattle.cells.proofs.Heights.{Level, has_level_lem, shifted_there, none_there}
use Rattle.cells.proofs.Height.row_at.Goals as goal

here : (c : goal.Then-has_level) → Level c.args.self.0 c.args.level
here c = has_level_lem c.args.self.0 c.args.level (sym c.has_level.ensures ∙ c.if-has_level.true)

pub overflow_sub-result : goal.overflow_sub-result
overflow_sub-result c = omega (arith, here c)

pub overflow_shl-result : goal.overflow_shl-result
overflow_shl-result c = omega (arith, here c)

pub returns-then-has_level : goal.returns-then-has_level
unfolding row_at
returns-then-has_level c = shifted_there _ c.has_level.ensures c.if-has_level.true (omega (arith, here c))

pub returns-else-has_level : goal.returns-else-has_level
returns-else-has_level c = none_there _ c.has_level.ensures c.if-has_level.false
