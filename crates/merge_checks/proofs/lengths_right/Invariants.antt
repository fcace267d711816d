-- `merge_checks::lengths_right` meets its contract: the lengths passed are off the total. Assumes nothing.
use Rattle.merge_checks.proofs.Laws.Sums.{Taking}
use Rattle.merge_checks.proofs.lengths_right.Given as goal

abbrev pub invariant-loop-length : goal.invariant-loop-length
invariant-loop-length l = Taking l.lengths l.total l.left l.length-index
