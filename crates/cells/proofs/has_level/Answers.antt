-- `cells::has_level` meets its contract. Assumes nothing.
use mathlib.Core.Path.{sym, ◌∙◌}
use Rattle.cells.proofs.Heights.{level_tested, level_none}
use Rattle.cells.proofs.has_level.Goals as goal

pub returns-then-is_height : goal.returns-then-is_height
returns-then-is_height c = sym (level_tested _ _ (sym c.is_height.ensures ∙ c.if-is_height.true))

pub returns-else-is_height : goal.returns-else-is_height
returns-else-is_height c = c.if-is_height.false ∙ sym (level_none _ _ (sym c.is_height.ensures ∙ c.if-is_height.false))
