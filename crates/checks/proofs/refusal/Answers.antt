-- `checks::refusal` meets its contract. Assumes nothing.
use mathlib.Core.Bool.{true}
use mathlib.Core.Path.{◌≡◌, refl, sym}
use native.Mathlib.Omega.{arith}
use Rattle.rules.proofs.Bools.{no, yes}
use Rattle.checks.proofs.Laws.Refusing.{refusal_1, refusal_2, refusal_4, refusal_5, refusal_0, refusal_graph, graph_free, says, says_same, refused}
use Rattle.rules.specs.Cells.{is_height}
use Rattle.rules.specs.Checks.{graph_right, loops_right}
use Rattle.refusals.proofs.Numbers.{handed_on}
use Rattle.checks.proofs.refusal.Goals as goal
use Rattle.checks.proofs.refusal.Goals.{Else-not-is_height, Else-not-sized, In_ok-graph_refusal}

tall : (c : Else-not-is_height) → is_height c.args.height ≡ true
tall c = yes c.is_height.ensures c.if-not-is_height.false-raw

is_sized : (c : Else-not-sized) → c.args.sized ≡ true
is_sized c = yes refl c.if-not-sized.false-raw

free : (c : In_ok-graph_refusal) → (graph_right c.args.gates.now ≡ true) × (loops_right c.args.gates.now ≡ true)
free c = graph_free _ (sym (rw c.in_ok-graph_refusal.was at c.graph_refusal.ensures).number)

pub returns-then-not-is_height : goal.returns-then-not-is_height
returns-then-not-is_height c = says refl (λ z. omega arith) (refusal_1 _ _ _ _ _ (no c.is_height.ensures c.if-not-is_height.true-raw))

pub returns-then-not-sized : goal.returns-then-not-sized
returns-then-not-sized c = says refl (λ z. omega arith) (refusal_2 _ _ _ _ _ (tall (goal.at.returns-then-not-sized c).Else-not-is_height) (no refl c.if-not-sized.true-raw))

pub returns-in_err-graph_refusal : goal.returns-in_err-graph_refusal
returns-in_err-graph_refusal c =
    let S = rw c.in_err-graph_refusal.was at c.graph_refusal.ensures in
    let at = goal.at.returns-in_err-graph_refusal c in
    rw (handed_on _ _ c.from_residual.ensures.1) (says_same S (refusal_graph _ _ _ _ _ (tall at.Else-not-is_height) (is_sized at.Else-not-sized) (refused S)))

pub returns-then-not-records_right : goal.returns-then-not-records_right
returns-then-not-records_right c =
    let at = goal.at.returns-then-not-records_right c in
    let g = free at.In_ok-graph_refusal in
    says refl (λ z. omega arith) (refusal_4 _ _ _ _ _ (tall at.Else-not-is_height) (is_sized at.Else-not-sized) g.0 g.1 _ c.pin_count-pins.ensures (no c.records_right.ensures c.if-not-records_right.true-raw))

pub returns-then-not-given_right : goal.returns-then-not-given_right
returns-then-not-given_right c =
    let at = goal.at.returns-then-not-given_right c in
    let g = free at.In_ok-graph_refusal in
    let r = yes c.records_right.ensures c.if-not-records_right.false-raw in
    says refl (λ z. omega arith) (refusal_5 _ _ _ _ _ (tall at.Else-not-is_height) (is_sized at.Else-not-sized) g.0 g.1 _ c.pin_count-pins.ensures r (no c.given_right.ensures c.if-not-given_right.true-raw))

pub returns : goal.returns
returns c =
    let at = goal.at.returns c in
    let g = free at.In_ok-graph_refusal in
    let r = yes c.records_right.ensures c.if-not-records_right.false-raw in
    says refl (λ z. omega arith) (refusal_0 _ _ _ _ _ (tall at.Else-not-is_height) (is_sized at.Else-not-sized) g.0 g.1 _ c.pin_count-pins.ensures r (yes c.given_right.ensures c.if-not-given_right.false-raw))
