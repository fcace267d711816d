-- `checks::graph_refusal` meets its contract. Assumes nothing.
use mathlib.Core.Bool.{true}
use mathlib.Core.Path.{◌≡◌, refl, ◌∙◌}
use native.Mathlib.Omega.{arith}
use Rattle.rules.proofs.Bools.{no, yes}
use Rattle.checks.proofs.Laws.Refusing.{size_wrong, size_right, graph_3, graph_23, graph_0, says, loops_none, loops_some, says_looped}
use Rattle.checks.proofs.Laws.Passed.{inside}
use Rattle.checks.proofs.Laws.Rising.{rising_right, rising_free}
use Rattle.rules.specs.Checks.{graph_right}
use Rattle.checks.proofs.graph_refusal.Goals as goal
use Rattle.checks.proofs.graph_refusal.Goals.{Else-not-nodes_right}

right : (c : Else-not-nodes_right) → graph_right c.args.gates.now ≡ true
right c = size_right _ (yes c.graph_sized.ensures c.if-not-graph_sized.false-raw) ∙ yes c.nodes_right.ensures c.if-not-nodes_right.false-raw

pub returns-then-not-graph_sized : goal.returns-then-not-graph_sized
returns-then-not-graph_sized c = says refl (λ z. omega arith) (graph_3 _ (size_wrong _ (no c.graph_sized.ensures c.if-not-graph_sized.true-raw)))

pub returns-then-from-pin_count : goal.returns-then-from-pin_count
returns-then-from-pin_count c =
    let s = yes c.graph_sized.ensures c.if-not-graph_sized.false-raw in
    let e = c.if-from-pin_count.true ∙ c.pin_count.ensures in
    let r = c.first_forward-from.ensures in
    says refl (λ z. omega arith) (graph_0 _ (rising_right _ s _ r e) (rising_free _ s _ r e))

pub returns-then-not-nodes_right : goal.returns-then-not-nodes_right
returns-then-not-nodes_right c =
    let s = yes c.graph_sized.ensures c.if-not-graph_sized.false-raw in
    says refl (λ z. omega arith) (graph_3 _ (size_right _ s ∙ no c.nodes_right.ensures c.if-not-nodes_right.true-raw))

pub loop_pin-requires : goal.loop_pin-requires
loop_pin-requires c = inside _ (right c)

pub returns-in-None : goal.returns-in-None
returns-in-None c = says refl (λ z. omega arith) (graph_0 _ (right (goal.at.returns-in-None c).Else-not-nodes_right) (loops_none _ _ c.loop_pin.ensures c.in-None.is))

pub returns-in-Some : goal.returns-in-Some
returns-in-Some c = says_looped _ _ c.loop_pin.ensures _ _ (graph_23 _ (right (goal.at.returns-in-Some c).Else-not-nodes_right) (loops_some _ _ c.loop_pin.ensures _ c.in-Some.is)) c.in-Some.is
