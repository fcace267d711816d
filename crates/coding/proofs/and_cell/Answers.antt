-- `coding::and_cell` meets its contract. Assumes nothing.
use Rattle.graph.specs.Values.{node_for}
use Rattle.coding.proofs.Laws.{inversion_small, and_leaf, and_gate}
use Rattle.coding.proofs.and_cell.Goals as goal

pub and_of-requires-in-Gate : goal.and_of-requires-in-Gate
and_of-requires-in-Gate c = record { pin_bound = c.requires; first_bound = inversion_small _ _ c.inversion_of.ensures; second_bound = inversion_small _ _ c.inversion_of-in-Gate.ensures }

pub returns-in-Leaf : goal.returns-in-Leaf
unfolding node_for
returns-in-Leaf c = rw c.in-Leaf.is (and_leaf _ _ c.and_of.ensures)

pub returns-in-Gate : goal.returns-in-Gate
unfolding node_for
returns-in-Gate c = rw c.in-Gate.is (and_gate _ _ _ _ _ _ c.inversion_of.ensures c.inversion_of-in-Gate.ensures c.and_of-in-Gate.ensures)
