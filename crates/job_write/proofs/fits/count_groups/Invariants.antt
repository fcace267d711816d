-- `job_write::fits::count_groups` meets its contract: the groups so far are counted. Assumes nothing.
use Prim.Native.Nat.{◌-◌}
use lib.ListN.{length}
use Rattle.job_write.proofs.Laws.Fits.{Counting}
use Rattle.job_write.proofs.fits.count_groups.Given as goal

abbrev pub invariant-loop-i : goal.invariant-loop-i
invariant-loop-i l = Counting l.records l.i l.count

abbrev pub decreases-loop-i : goal.decreases-loop-i
decreases-loop-i l = length l.records - l.i
