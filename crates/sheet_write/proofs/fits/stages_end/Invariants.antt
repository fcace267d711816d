-- `sheet_write::fits::stages_end` meets its contract. Assumes nothing.
use Rattle.sheet_write.proofs.Laws.Fits.{Fits}
use Rattle.sheet_write.proofs.fits.stages_end.Given as goal

abbrev pub invariant-loop-i : goal.invariant-loop-i
invariant-loop-i l = Fits l.height l.stages l.plan l.words l.counts l.i l.from l.at
