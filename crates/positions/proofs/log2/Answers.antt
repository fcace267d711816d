-- `positions::log2` meets its contract. Assumes nothing.
use native.Mathlib.Omega.{arith}
use Rattle.positions.proofs.Positions.{log_zero, few_zeros, zeros_log}
use Rattle.positions.proofs.log2.Goals as goal

pub returns-then-p-eq0 : goal.returns-then-p-eq0
returns-then-p-eq0 c = log_zero _ c.if-p-eq0.true

pub overflow_sub-result : goal.overflow_sub-result
overflow_sub-result c = few_zeros _ (omega arith) c.ranges.p.fits

pub returns : goal.returns
returns c = zeros_log _ (omega arith) c.ranges.p.fits
