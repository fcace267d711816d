-- `cells::position` meets its contract. Assumes nothing.
use native.Mathlib.Omega.{arith}
use Rattle.cells.proofs.Heights.{row_small, cell_none, cell_there}
use Rattle.cells.proofs.position.Goals as goal

pub returns-then-row-wide : goal.returns-then-row-wide
returns-then-row-wide c = cell_none _ _ _ c.row_at-row.ensures _ (omega arith)

pub overflow_add-result : goal.overflow_add-result
overflow_add-result c = let a = c.args in omega (arith, row_small a.height a.level _ c.row_at-row.ensures)

pub returns : goal.returns
returns c = rw c.wide-2.ensures (cell_there _ _ _ c.row_at-row.ensures _ (omega arith))
