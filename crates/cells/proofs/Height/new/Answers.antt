-- `cells::Height::new` meets its contract. Assumes nothing.
use mathlib.Core.Path.{sym, ◌∙◌}
use Rattle.cells.specs.Answers.{height_of}
use Rattle.cells.proofs.Height.new.Goals as goal

pub returns-then-is_height : goal.returns-then-is_height
unfolding height_of
returns-then-is_height c = rw (sym c.is_height.ensures ∙ c.if-is_height.true, height_of)

pub returns-else-is_height : goal.returns-else-is_height
unfolding height_of
returns-else-is_height c = rw (sym c.is_height.ensures ∙ c.if-is_height.false, height_of)
