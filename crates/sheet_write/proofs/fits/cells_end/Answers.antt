use Rattle.sheet_write.proofs.Laws.Fits.{cells_none, cells_lost, cells_more, cells_done}
use Rattle.sheet_write.proofs.fits.cells_end.Goals as goal

pub loop-i-init : goal.loop-i-init
loop-i-init c = cells_none c.requires.some

pub returns-in_err-at : goal.returns-in_err-at
returns-in_err-at c = rw c.from_residual.ensures (cells_lost c.loop-i.invariant c.loop-i-test.true c.in_err-at.ensures)

pub loop-i-preserved : goal.loop-i-preserved
loop-i-preserved c = cells_more c.loop-i.invariant c.loop-i-test.true _ c.in_ok-at.ensures

pub returns : goal.returns
returns c = cells_done c.loop-i.invariant c.loop-i-test.false
