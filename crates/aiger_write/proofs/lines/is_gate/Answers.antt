-- `aiger_write::lines::is_gate` meets its contract: by the node. Assumes nothing.
use mathlib.Core.Path.{ap}
use Rattle.rules.specs.Graph.{Node}
use Rattle.graph.specs.Values.{node_for}
use Rattle.aiger_write.specs.Lines.{gate_node, is_gate}
use Rattle.aiger_write.proofs.lines.is_gate.Goals as goal

pub returns-in-Leaf : goal.returns-in-Leaf
unfolding node_for gate_node is_gate
returns-in-Leaf c = ap (λ (x : Node). gate_node x) (rw c.in-Leaf.is at c.node_at.ensures)

pub returns-in-Gate : goal.returns-in-Gate
unfolding node_for gate_node is_gate
returns-in-Gate c = ap (λ (x : Node). gate_node x) (rw c.in-Gate.is at c.node_at.ensures)
