-- `checks::node_right` meets its contract. Assumes nothing.
use Rattle.rules.specs.Checks.{nodes_right}
use Rattle.graph.specs.Values.{node_for}
use Rattle.checks.proofs.Laws.Gates.{gate_zero, gate_right}
use Rattle.checks.proofs.node_right.Goals as goal

pub returns-then-p-eq0 : goal.returns-then-p-eq0
unfolding node_for
returns-then-p-eq0 c = rw c.in-Gate.is (gate_zero _ _ _ _ c.if-p-eq0.true)

pub returns-in-Leaf : goal.returns-in-Leaf
unfolding node_for nodes_right
returns-in-Leaf c = rw c.in-Leaf.is

pub returns-then-operand_right : goal.returns-then-operand_right
unfolding node_for
returns-then-operand_right c = rw (c.in-Gate.is, gate_right _ _ _ _ c.if-p-eq0.false, ← c.operand_right.ensures, c.if-operand_right.true) c.operand_right-then-operand_right.ensures

pub returns-else-operand_right : goal.returns-else-operand_right
unfolding node_for
returns-else-operand_right c = rw (c.in-Gate.is, gate_right _ _ _ _ c.if-p-eq0.false, ← c.operand_right.ensures, c.if-operand_right.false)
