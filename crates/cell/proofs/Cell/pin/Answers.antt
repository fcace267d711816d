-- `cell::Cell::pin` meets its contract. Assumes nothing.
use Rattle.cell.proofs.Cells.{pin_none_lem, pin_some}
use Rattle.cell.proofs.Cell.pin.Goals as goal

pub returns-then-self-eq-EMPTY : goal.returns-then-self-eq-EMPTY
returns-then-self-eq-EMPTY c = pin_none_lem _ c.if-self-eq-EMPTY.true

pub returns : goal.returns
returns c = pin_some _ c.if-self-eq-EMPTY.false
