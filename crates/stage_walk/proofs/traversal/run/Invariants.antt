-- `stage_walk::traversal::run` meets its contract: each step leaves the same to list, and fewer steps. Assumes nothing.
use mathlib.Core.Path.{◌≡◌}
use lib.ListN.{length}
use Rattle.rules.specs.Inside.Some.{Every}
use Rattle.stage_walk.specs.Machine.{Going, to_go, Went}
use Rattle.stage_walk.proofs.traversal.run.Given as goal

abbrev pub invariant-loop-at : goal.invariant-loop-at
invariant-loop-at l = Every (λ C. Going C l.m l.gates l.initial.work l.items l.n) (λ C. Went C l.m l.gates l.initial.work l.items l.n l.work l.at.depth l.at.listed) ×
    (length l.work ≡ length l.initial.work)

abbrev pub decreases-loop-at : goal.decreases-loop-at
decreases-loop-at l = to_go l.m l.work l.at.depth l.at.listed
