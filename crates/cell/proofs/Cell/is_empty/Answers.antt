-- `cell::Cell::is_empty` meets its contract. Assumes nothing.
use Rattle.cell.proofs.Cells.{empty_tested}
use Rattle.cell.proofs.Cell.is_empty.Goals as goal

pub returns : goal.returns
returns c = empty_tested _
