-- `sheet_write::fits::hold` meets its contract. Assumes nothing.
use mathlib.Core.Path.{◌∙◌}
use borrow.Author.Tests.{lt-leb}
use mathlib.Core.List.{[]}
use native.Mathlib.Omega.{arith}
use Rattle.sheet_write.proofs.Laws.Fits.{hold_cells, hold_counts, hold_words, no_wrap}
use Rattle.sheet_write.proofs.fits.hold.Goals as goal

pub overflow_mul-stages : goal.overflow_mul-stages
overflow_mul-stages c = omega (arith, no_wrap c.requires [] [] [] c.stage_size.ensures)

pub returns-then-plan-stages : goal.returns-then-plan-stages
returns-then-plan-stages c = hold_cells c.requires _ _ _ c.stage_size.ensures c.if-plan-stages.true

pub returns-else-stages-counts : goal.returns-else-stages-counts
returns-else-stages-counts c = lt-leb _ _ c.if-stages-counts.false ∙ hold_counts c.requires _ _ _ c.stage_size.ensures c.if-plan-stages.false c.if-stages-counts.false

pub returns-then-stages-counts : goal.returns-then-stages-counts
returns-then-stages-counts c = hold_words c.requires _ _ _ c.stage_size.ensures c.if-plan-stages.false c.if-stages-counts.true c.sum_of.ensures
