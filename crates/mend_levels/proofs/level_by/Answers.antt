-- `mend_levels::level_by_lem` meets its contract. Assumes nothing.
use Rattle.graph.specs.Values.{node_for}
use Rattle.mend_levels.proofs.Laws.{by_stop, by_leaf, by_gate}
use Rattle.mend_levels.proofs.level_by.Goals as goal

pub returns-then-has_mark : goal.returns-then-has_mark
returns-then-has_mark c = by_stop _ _ _ _ _ _ c.has_mark.ensures c.if-has_mark.true

pub returns-in-Leaf : goal.returns-in-Leaf
unfolding node_for
returns-in-Leaf c = by_leaf _ _ _ _ _ _ c.has_mark.ensures c.if-has_mark.false (rw c.in-Leaf.is at c.node_at.ensures)

pub returns-in-Gate : goal.returns-in-Gate
unfolding node_for
returns-in-Gate c = by_gate _ _ _ _ _ _ c.has_mark.ensures c.if-has_mark.false _ _ (rw c.in-Gate.is at c.node_at.ensures) _ _ _ _ _ c.pin_of.ensures c.pin_of-in-Gate.ensures c.level_at.ensures c.level_at-in-Gate.ensures c.above.ensures
