-- `graph::node_of` meets its contract. Assumes nothing.
use mathlib.Core.Logic.{inl, inr}
use Rattle.graph.specs.Values.{node_for}
use Rattle.graph.proofs.Gates.{node_leaf, node_gate}
use Rattle.graph.proofs.node_of.Goals as goal

pub returns-then-b-eq-EMPTY : goal.returns-then-b-eq-EMPTY
unfolding node_for
returns-then-b-eq-EMPTY c = node_leaf _ _ c.if-a-eq-EMPTY.true c.if-b-eq-EMPTY.true

pub returns-else-b-eq-EMPTY : goal.returns-else-b-eq-EMPTY
unfolding node_for
returns-else-b-eq-EMPTY c = node_gate _ _ (inr c.if-b-eq-EMPTY.false)

pub returns-else-a-eq-EMPTY : goal.returns-else-a-eq-EMPTY
unfolding node_for
returns-else-a-eq-EMPTY c = node_gate _ _ (inl c.if-a-eq-EMPTY.false)
