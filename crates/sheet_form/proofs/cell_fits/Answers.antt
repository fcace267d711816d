-- `sheet_form::cell_fits` meets its contract. Assumes nothing.
use mathlib.Core.Path.{sym, ◌∙◌}
use Rattle.sheet_form.specs.Forms.{is_cell}
use Rattle.sheet_form.proofs.Forms.{none_fits, copy_fits, and_fits}
use Rattle.sheet_form.proofs.cell_fits.Goals as goal

pub returns-then-not-is_cell : goal.returns-then-not-is_cell
unfolding is_cell
returns-then-not-is_cell c = none_fits _ _ _ (sym c.is_cell.ensures ∙ c.if-not-is_cell.true)

pub returns-then-not-ands : goal.returns-then-not-ands
unfolding is_cell
returns-then-not-ands c = rw c.if-not-ands.true (copy_fits _ _ _ (sym c.is_cell.ensures ∙ c.if-not-is_cell.false) (sym c.ands.ensures ∙ c.if-not-ands.true))

pub returns-else-not-ands : goal.returns-else-not-ands
unfolding is_cell
returns-else-not-ands c = and_fits _ _ _ (sym c.is_cell.ensures ∙ c.if-not-is_cell.false) (sym c.ands.ensures ∙ c.if-not-ands.false) c.requires _ c.width.ensures
