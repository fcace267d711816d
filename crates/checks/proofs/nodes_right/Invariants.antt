-- `checks::nodes_right` meets its contract. Assumes nothing.
use Rattle.checks.proofs.Laws.Turns.{NodesLeft}
use Rattle.checks.proofs.nodes_right.Given as goal

abbrev pub invariant-loop-p : goal.invariant-loop-p
invariant-loop-p l = NodesLeft l.gates l.pins l.p
