-- `sheet_write::fits::cell_bits` meets its contract. Assumes nothing.
use mathlib.Core.Path.{sym, ◌∙◌}
use borrow.Author.Tests.{not-true, not-false}
use Rattle.sheet_write.proofs.Laws.Fits.{cell_empty, cell_lost, cell_held}
use Rattle.sheet_write.proofs.fits.cell_bits.Goals as goal

pub returns-then-is_empty : goal.returns-then-is_empty
returns-then-is_empty c = cell_empty _ _ _ (not-true _ (sym c.is_empty.ensures ∙ c.if-is_empty.true))

pub returns-then-not-cell_fits : goal.returns-then-not-cell_fits
returns-then-not-cell_fits c = cell_lost _ _ _ (not-false _ (sym c.is_empty.ensures ∙ c.if-is_empty.false)) (sym c.cell_fits.ensures ∙ c.if-not-cell_fits.true)

pub returns : goal.returns
returns c = cell_held _ _ _ (not-false _ (sym c.is_empty.ensures ∙ c.if-is_empty.false)) (sym c.cell_fits.ensures ∙ c.if-not-cell_fits.false)
