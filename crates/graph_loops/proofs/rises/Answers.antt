-- `graph_loops::rises` meets its contract. Assumes nothing.
use Prim.Native.Nat.{ℕ}
use mathlib.Core.Path.{ap}
use lib.ListN.{get_or}
use Rattle.rules.proofs.Lists.Members.{true_false}
use Rattle.graph_loops.proofs.Laws.Marking.{rises_leaf, rises_gate}
use Rattle.graph_loops.proofs.rises.Goals as goal

pub returns-in-Leaf : goal.returns-in-Leaf
returns-in-Leaf c = λ e. rises_leaf _ _ _ _ _ c.node_at.ensures c.in-Leaf.is

pub returns-then-rises_to : goal.returns-then-rises_to
returns-then-rises_to c = λ e. rises_gate _ _ _ _ _ c.node_at.ensures _ _ c.in-Gate.is _ (ap (λ (i : ℕ). get_or c.args.low.now i 0) c.index.ensures) (c.rises_to.ensures c.if-rises_to.true) (c.rises_to-then-rises_to.ensures e)

pub returns-else-rises_to : goal.returns-else-rises_to
returns-else-rises_to c = λ e. true_false e c.if-rises_to.false
