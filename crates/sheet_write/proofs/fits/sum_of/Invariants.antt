-- `sheet_write::fits::sum_of` meets its contract. Assumes nothing.
use Rattle.sheet_write.proofs.Laws.Fits.{Summing}
use Rattle.sheet_write.proofs.fits.sum_of.Given as goal

abbrev pub invariant-loop-c : goal.invariant-loop-c
invariant-loop-c l = Summing l.counts l.c-index l.total
