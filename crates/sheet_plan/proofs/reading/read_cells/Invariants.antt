-- `sheet_plan::reading::read_cells` meets its contract. Assumes nothing.
use Rattle.sheet_form.specs.Kinds.{number_for}
use Rattle.sheet_plan.proofs.Laws.Cells.{Cells}
use Rattle.sheet_plan.proofs.reading.read_cells.Given as goal

abbrev pub invariant-loop-p : goal.invariant-loop-p
invariant-loop-p l = Cells (number_for l.kind.sheet) l.kind.height l.bytes l.from l.at l.p l.initial.cells l.cells
