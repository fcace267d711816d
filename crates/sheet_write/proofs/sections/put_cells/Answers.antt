use Rattle.sheet_write.proofs.Laws.Sections.{cells_none, cells_more, cells_done}
use Rattle.sheet_write.proofs.sections.put_cells.Goals as goal

pub loop-i-init : goal.loop-i-init
loop-i-init c = cells_none

pub loop-i-preserved : goal.loop-i-preserved
loop-i-preserved c = cells_more c.loop-i.invariant c.loop-i-test.true c.put_cell-at.ensures

pub returns : goal.returns
returns c = cells_done c.loop-i.invariant c.loop-i-test.false
