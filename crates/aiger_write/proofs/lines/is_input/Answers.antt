-- `aiger_write::lines::is_input` meets its contract. Assumes nothing.
use mathlib.Core.Path.{sym, ◌∙◌}
use Rattle.aiger_write.specs.Lines.{is_input}
use Rattle.aiger_write.proofs.lines.is_input.Goals as goal

pub returns-then-is_leaf_pin : goal.returns-then-is_leaf_pin
unfolding is_input
returns-then-is_leaf_pin c = rw (c.index.ensures, sym c.is_leaf_pin.ensures ∙ c.if-is_leaf_pin.true)

pub returns-else-is_leaf_pin : goal.returns-else-is_leaf_pin
unfolding is_input
returns-else-is_leaf_pin c = rw (sym c.is_leaf_pin.ensures ∙ c.if-is_leaf_pin.false, c.if-is_leaf_pin.false)
