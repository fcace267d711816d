-- `stage_walk::traversal::traverse_on` meets its contract: the waiting pins from i on are still to be visited. Assumes nothing.
use mathlib.Core.Path.{◌≡◌}
use Prim.Native.Nat.{◌≤◌}
use lib.ListN.{length}
use Rattle.rules.specs.Inside.Some.{Every}
use Rattle.stage_walk.specs.Machine.{GoOnAt, Swept}
use Rattle.stage_walk.proofs.traversal.traverse_on.Given as goal

abbrev pub invariant-loop-i : goal.invariant-loop-i
invariant-loop-i l = Every (λ C. GoOnAt C l.m l.n l.from l.before l.gates l.initial.work) (λ C. Swept C l.m l.n l.gates l.initial.work l.i l.work l.listed) × (l.i ≤ l.n) ×
    (length l.work ≡ length l.initial.work)
