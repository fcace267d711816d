-- `sheet_plan::reading::read_cell` meets its contract. Assumes nothing.
use mathlib.Core.Path.{refl}
use Rattle.rules.specs.Cells.{empty}
use Rattle.sheet_plan.proofs.Laws.Cells.{cell_lost, filled_at, cell_filled, cell_empty}
use Rattle.sheet_plan.proofs.reading.read_cell.Goals as goal

pub returns-then-bytes-at-clause-took : goal.returns-then-bytes-at-clause-took
returns-then-bytes-at-clause-took c = cell_lost c.requires _ _ c.if-bytes-at.true

pub read_filled-requires : goal.read_filled-requires
read_filled-requires c = filled_at c.requires 0 0 c.if-bytes-at.false c.field.ensures

pub returns-then-field-eq1-clause-took : goal.returns-then-field-eq1-clause-took
returns-then-field-eq1-clause-took c = cell_filled c.requires _ _ c.if-bytes-at.false c.field.ensures c.if-field-eq1.true c.read_filled.ensures.took

pub returns-clause-took : goal.returns-clause-took
unfolding empty
returns-clause-took c = cell_empty c.requires _ _ c.if-bytes-at.false c.field.ensures c.if-field-eq1.false refl
