-- `positions::cell_of` meets its contract. Assumes nothing.
use native.Mathlib.Omega.{arith}
use Rattle.rules.specs.Cells.{cell_of}
use Rattle.positions.proofs.Positions.{start_low}
use Rattle.positions.proofs.cell_of.Goals as goal

pub returns-then-p-eq0 : goal.returns-then-p-eq0
unfolding cell_of
returns-then-p-eq0 c = omega arith

pub overflow_sub-result : goal.overflow_sub-result
overflow_sub-result c = omega (arith, c.row_start.ensures, start_low c.args.p (omega arith))

pub returns : goal.returns
unfolding cell_of
returns c = omega (arith, c.row_start.ensures)
