-- `sheet_write::fits::cells_end` meets its contract. Assumes nothing.
use Rattle.sheet_write.proofs.Laws.Fits.{Cells}
use Rattle.sheet_write.proofs.fits.cells_end.Given as goal

abbrev pub invariant-loop-i : goal.invariant-loop-i
invariant-loop-i l = Cells l.height l.cells l.from l.i l.at
