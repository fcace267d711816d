-- `positions::second_lower` meets its contract. Assumes nothing.
use native.Mathlib.Omega.{arith}
use Rattle.rules.specs.Cells.{second_lower}
use Rattle.positions.proofs.second_lower.Goals as goal

pub returns : goal.returns
unfolding second_lower
returns c = omega arith
