-- `positions::first_lower` meets its contract. Assumes nothing.
use native.Mathlib.Omega.{arith}
use Rattle.rules.specs.Cells.{first_lower}
use Rattle.positions.proofs.first_lower.Goals as goal

pub returns : goal.returns
unfolding first_lower
returns c = omega arith
