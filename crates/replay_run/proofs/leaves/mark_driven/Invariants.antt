-- `replay_run::leaves::mark_driven` meets its contract: those from the i-th on are marked. Assumes nothing.
use Rattle.replay_run.proofs.Laws.Leaves.{MarkedTo}
use Rattle.replay_run.proofs.leaves.mark_driven.Given as goal

abbrev pub invariant-loop-i : goal.invariant-loop-i
invariant-loop-i l = MarkedTo l.driven l.initial.marks l.i l.marks
