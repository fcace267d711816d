-- `graph::node_at` meets its contract. Assumes nothing.
use native.Mathlib.Omega.{arith}
use mathlib.Core.Path.{◌∙◌}
use Rattle.graph.specs.Values.{node_for}
use Rattle.graph.proofs.Gates.{node_past, node_inside, node_there}
use Rattle.graph.proofs.node_at.Goals as goal

pub returns-then-pin_count-p : goal.returns-then-pin_count-p
unfolding node_for
returns-then-pin_count-p c = node_past _ _ _ _ c.index-p.ensures c.pin_count.ensures c.if-pin_count-p.true

pub bounds-gates-p : goal.bounds-gates-p
bounds-gates-p c =
    let a = c.args in
    omega (arith, node_inside a.gates.now _ _ _ c.index-p.ensures c.pin_count.ensures c.if-pin_count-p.false)

pub bounds-gates-p-2 : goal.bounds-gates-p-2
bounds-gates-p-2 c =
    let a = c.args in
    omega (arith, node_inside a.gates.now _ _ _ c.index-p.ensures c.pin_count.ensures c.if-pin_count-p.false)

pub returns : goal.returns
returns c = c.node_of.ensures ∙ node_there _ _ _ _ c.index-p.ensures c.pin_count.ensures c.if-pin_count-p.false
