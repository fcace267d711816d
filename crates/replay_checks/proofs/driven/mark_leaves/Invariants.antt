-- `replay_checks::driven::mark_leaves` meets its contract. Assumes nothing.
use Rattle.rules.specs.Graph.{graph_of}
use Rattle.replay_checks.proofs.Laws.Driven.{RightTo}
use Rattle.replay_checks.proofs.driven.mark_leaves.Given as goal

abbrev pub invariant-loop-i : goal.invariant-loop-i
invariant-loop-i l = RightTo (graph_of l.gates) l.driven l.initial.marks l.i l.marks
