-- `aiger_text::passes::store_row` meets its contract. Assumes nothing.
use mathlib.Core.Path.{◌∙◌}
use Rattle.aiger_rows.specs.Rows.{said, row_item}
use Rattle.aiger_text.specs.Passes.{store_item}
use Rattle.aiger_text.proofs.Laws.Passes.{store_other, store_past}
use Rattle.aiger_text.proofs.passes.store_row.Goals as goal

pub returns-in_default : goal.returns-in_default
unfolding said store_item
returns-in_default c = rw c.in_default.is

pub returns-then-p-lt65536 : goal.returns-then-p-lt65536
unfolding said row_item store_item
returns-then-p-lt65536 c = rw (c.in-Some.is, c.in-Gate.is, ← (c.index-p.ensures ∙ c.pin_of.ensures))

pub returns-else-p-lt65536 : goal.returns-else-p-lt65536
unfolding said row_item
returns-else-p-lt65536 c = rw (c.in-Some.is, c.in-Gate.is) (store_past _ _ _ _ _ (c.index-p.ensures ∙ c.pin_of.ensures) c.if-p-lt65536.false c.requires)

pub returns-in_default-row : goal.returns-in_default-row
unfolding said
returns-in_default-row c = rw c.in-Some.is (store_other _ _ c.in_default-row.not-Gate)
