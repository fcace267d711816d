-- `plan_check_stage::right::is_leaf` meets its contract. Assumes nothing.
use Rattle.rules.specs.Fold.{is_leaf}
use Rattle.graph.specs.Values.{node_for}
use Rattle.plan_check_stage.proofs.Laws.Right.{leaf_there, gate_there}
use Rattle.plan_check_stage.proofs.right.is_leaf.Goals as goal

pub returns-in-Leaf : goal.returns-in-Leaf
unfolding node_for is_leaf
returns-in-Leaf c = leaf_there _ _ _ c.node_at.ensures _ (rw c.in-Leaf.is)

pub returns-in_default : goal.returns-in_default
returns-in_default c = leaf_there _ _ _ c.node_at.ensures _ (gate_there _ c.in_default.not-Leaf)
