-- `positions::row_start` meets its contract. Assumes nothing.
use native.Mathlib.Omega.{arith}
use Rattle.positions.proofs.Positions.{log_few, start_shifted}
use Rattle.positions.proofs.row_start.Goals as goal

pub overflow_shl-result : goal.overflow_shl-result
overflow_shl-result c = omega (arith, c.log2.ensures, log_few c.args.p 32 (omega arith) c.ranges.p.fits)

pub returns : goal.returns
returns c = start_shifted _ 32 _ (omega arith) c.ranges.p.fits c.log2.ensures
