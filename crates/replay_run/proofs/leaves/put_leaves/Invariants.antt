-- `replay_run::leaves::put_leaves` meets its contract: pins below p are gone through. Assumes nothing.
use Rattle.replay_run.proofs.Laws.Leaves.{LeavesTo}
use Rattle.replay_run.proofs.leaves.put_leaves.Given as goal

abbrev pub invariant-loop-p : goal.invariant-loop-p
invariant-loop-p l = LeavesTo l.gates l.marks l.initial.leaves l.p l.n l.leaves
