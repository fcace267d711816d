-- `sheet_write::sections::put_cells` meets its contract. Assumes nothing.
use Rattle.sheet_write.proofs.Laws.Sections.{Cells}
use Rattle.sheet_write.proofs.sections.put_cells.Given as goal

abbrev pub invariant-loop-i : goal.invariant-loop-i
invariant-loop-i l = Cells l.cells l.i l.from l.at l.initial.bytes l.bytes
