-- `replay_run::leaves::line_leaf` meets its contract. Assumes nothing.
use native.Mathlib.Omega.{arith}
use Rattle.graph.specs.Values.{node_for}
use Rattle.graph.proofs.Gates.{graph_length}
use Rattle.rules.specs.Fold.{is_leaf}
use Rattle.replay_run.proofs.Laws.Leaves.{leaf_zero, leaf_driven, leaf_by}
use Rattle.replay_run.proofs.leaves.line_leaf.Goals.{then-p-eq0-via-then-p-eq0, then-p-eq0-via-else-p-eq0+then-marks-p-ne0}
use Rattle.replay_run.proofs.leaves.line_leaf.Goals as goal

pub returns-then-p-eq0 : goal.returns-then-p-eq0
returns-then-p-eq0 c = elim c.then-p-eq0.branch [
  | then-p-eq0-via-then-p-eq0 w ↦ leaf_zero _ _ _ w.if-p-eq0.true
  | then-p-eq0-via-else-p-eq0+then-marks-p-ne0 w ↦ leaf_driven _ _ _ w.if-marks-p-ne0.true
]

pub returns-in-Leaf : goal.returns-in-Leaf
unfolding node_for is_leaf
returns-in-Leaf c = leaf_by _ _ _ c.if-p-eq0.false (omega (arith, graph_length c.args.gates.now)) c.if-marks-p-ne0.false _ (rw (← c.node_at.ensures, c.in-Leaf.is))

pub returns-in_default : goal.returns-in_default
unfolding node_for is_leaf
returns-in_default c = leaf_by _ _ _ c.if-p-eq0.false (omega (arith, graph_length c.args.gates.now)) c.if-marks-p-ne0.false _ (rw (← c.node_at.ensures, c.in_default.is))
