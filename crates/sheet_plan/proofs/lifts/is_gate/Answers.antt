-- `sheet_plan::lifts::is_gate` meets its contract. Assumes nothing.
use Rattle.rules.specs.Fold.{is_leaf}
use Rattle.graph.specs.Values.{node_for}
use Rattle.sheet_plan.proofs.lifts.is_gate.Goals as goal

pub returns-in-Leaf : goal.returns-in-Leaf
unfolding node_for is_leaf
returns-in-Leaf c = rw c.in-Leaf.is

pub returns-in-Gate : goal.returns-in-Gate
unfolding node_for is_leaf
returns-in-Gate c = rw c.in-Gate.is
