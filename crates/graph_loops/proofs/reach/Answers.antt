-- `graph_loops::reach` meets its contract. Assumes nothing.
use Rattle.graph_loops.proofs.Laws.Reaching.{reach_leaf, reach_true, reach_rest}
use Rattle.graph_loops.proofs.reach.Goals as goal

pub returns-in-Leaf : goal.returns-in-Leaf
returns-in-Leaf c = reach_leaf _ _ _ c.node_at.ensures _ c.in-Leaf.is

pub returns-then-x : goal.returns-then-x
returns-then-x c = let d = c in rw c.if-x.true (reach_true _ _ _ d.node_at.ensures _ _ d.in-Gate.is c.reach_one-x.ensures c.reach_one-y.ensures c.if-x.true)

pub returns-else-x : goal.returns-else-x
returns-else-x c = let d = c in reach_rest _ _ _ d.node_at.ensures _ _ d.in-Gate.is c.reach_one-x.ensures c.reach_one-y.ensures c.if-x.false
