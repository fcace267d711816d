-- `cell::Cell::does` meets its contract. Assumes nothing.
use Rattle.rules.specs.Coded.{first_inversion, second_inversion}
use Rattle.cell.proofs.Cells.{and_number}
use Rattle.cell.proofs.Cell.does.Goals as goal

pub returns : goal.returns
unfolding first_inversion second_inversion
returns c = rw and_number
