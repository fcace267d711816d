use native.Mathlib.Omega.{arith}
use Rattle.sheet_plan.proofs.Laws.Cells.{cells_none, cell_asks, cells_lost, cells_more, cells_done}
use Rattle.sheet_plan.proofs.reading.read_cells.Goals as goal

pub loop-p-init : goal.loop-p-init
loop-p-init c = cells_none c.requires _

pub read_cell-requires : goal.read_cell-requires
read_cell-requires c = cell_asks c.requires _ c.loop-p.invariant

pub returns-in_err-found-clause-took : goal.returns-in_err-found-clause-took
returns-in_err-found-clause-took c = rw c.from_residual.ensures (cells_lost c.requires _ c.loop-p.invariant (omega (arith, c.loop-p-test.true, c.loop-p.invariant.len)) c.in_err-found.ensures.took (omega arith))

pub loop-p-preserved : goal.loop-p-preserved
loop-p-preserved c = cells_more c.requires _ c.loop-p.invariant (omega (arith, c.loop-p-test.true, c.loop-p.invariant.len)) c.in_ok-found.ensures.took c.in_ok-found.ensures.inside

pub returns-clause-took : goal.returns-clause-took
returns-clause-took c = cells_done c.requires _ c.loop-p.invariant (omega (arith, c.loop-p-test.false, c.loop-p.invariant.len))
