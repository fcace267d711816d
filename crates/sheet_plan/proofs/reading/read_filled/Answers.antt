-- `sheet_plan::reading::read_filled` meets its contract. Assumes nothing.
use mathlib.Core.Path.{sym, ◌∙◌}
use native.Mathlib.Omega.{arith}
use Rattle.sheet_form.specs.Forms.{cell_with}
use Rattle.sheet_plan.proofs.Laws.Cells.{few_behind, filled_short, parts_small, filled_bad, filled_took}
use Rattle.sheet_plan.proofs.reading.read_filled.Goals as goal

pub overflow_add-w : goal.overflow_add-w
overflow_add-w c = omega (arith, few_behind c.requires _ 0 c.behind_pin-w.ensures)

pub returns-then-bytes-at-clause-took : goal.returns-then-bytes-at-clause-took
returns-then-bytes-at-clause-took c = filled_short c.requires _ _ c.behind_pin-w.ensures c.if-bytes-at.true

pub field-does-requires : goal.field-does-requires
field-does-requires c = record { inside = omega (arith, c.if-bytes-at.false, c.requires.inside); small = c.requires.small; short = omega (arith, few_behind c.requires _ 0 c.behind_pin-w.ensures) }

pub of_parts-cell-requires : goal.of_parts-cell-requires
of_parts-cell-requires c =
    let t = parts_small c.requires _ 0 c.behind_pin-w.ensures c.if-bytes-at.false c.field-pin.ensures c.field-does.ensures in
    record { pin_bound = t.0; does_bound = t.1 }

pub returns-then-not-cell_fits-clause-took : goal.returns-then-not-cell_fits-clause-took
unfolding cell_with
returns-then-not-cell_fits-clause-took c = filled_bad c.requires _ _ c.behind_pin-w.ensures c.if-bytes-at.false c.field-pin.ensures c.field-does.ensures c.of_parts-cell.ensures (sym c.cell_fits.ensures ∙ c.if-not-cell_fits.true)

pub returns-clause-took : goal.returns-clause-took
unfolding cell_with
returns-clause-took c = filled_took c.requires _ _ c.behind_pin-w.ensures c.if-bytes-at.false c.field-pin.ensures c.field-does.ensures c.of_parts-cell.ensures (sym c.cell_fits.ensures ∙ c.if-not-cell_fits.false)
