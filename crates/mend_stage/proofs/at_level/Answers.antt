-- `mend_stage::at_level` meets its contract. Assumes nothing.
use Rattle.rules.specs.Graph.{graph_of}
use Rattle.mend_stage.proofs.Laws.{level_zero, level_leaf, level_gate}
use Rattle.graph.specs.Values.{node_for}
use Rattle.mend_stage.specs.Stages.{deed_for}
use Rattle.mend_stage.proofs.at_level.Goals as goal

pub returns-then-level-eq0 : goal.returns-then-level-eq0
unfolding deed_for
returns-then-level-eq0 c = level_zero (graph_of c.args.gates.now) _ _ c.if-level-eq0.true

pub returns-in-Leaf : goal.returns-in-Leaf
unfolding node_for deed_for
returns-in-Leaf c = level_leaf (graph_of c.args.gates.now) _ c.args.pin.0 c.if-level-eq0.false (rw c.in-Leaf.is at c.node_at.ensures)

pub returns-in-Gate : goal.returns-in-Gate
unfolding node_for deed_for
returns-in-Gate c = level_gate (graph_of c.args.gates.now) _ _ c.if-level-eq0.false _ _ (rw c.in-Gate.is at c.node_at.ensures)
