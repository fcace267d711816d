-- Gates whose operands are below them: right, and on no loop. Assumes nothing.
use Prim.Native.Nat.{ℕ, zero, suc, ◌+◌, ◌*◌, ◌≤◌, ◌<◌}
use mathlib.Core.Bool.{Bool, true, false, not}
use mathlib.Core.List.{List, [], ◌∷◌}
use mathlib.Core.Path.{◌≡◌, refl, sym, ◌∙◌}
use native.Mathlib.Numerals.{add-one}
use native.Mathlib.Omega.{arith}
use lib.ListN.{get_or}
use borrow.Author.Count.{below_more}
use borrow.Author.Tests.{lt-ltb}
use Rattle.rules.specs.Graph.{Node, leaf, gate, pin_of, node_of, graph_of, pin_count}
use Rattle.rules.specs.Checks.{nodes_right, graph_right, loops_right}
use Rattle.rules.proofs.Bools.{yes}
use Rattle.rules.proofs.Walk.Reverse.{below_in}
use Rattle.graph.proofs.Gates.{graph_at}
use Rattle.graph_loops.specs.Marks.{Lower}
use Rattle.graph_loops.proofs.Laws.Marking.{lower_loopless}
use Rattle.checks.specs.Values.{graph_sized, Rising}
use Rattle.checks.proofs.Laws.Gates.{nodes_end}
use Rattle.checks.proofs.Laws.Turns.{NodesLeft, nodes_begin, nodes_more, pins_are}
use Rattle.checks.proofs.Laws.Refusing.{size_right}
use Rattle.checks.proofs.Laws.Passed.{gate_below, gates_below, operand_above, inside}

-- what is right among p pins is so among more
wider : (n p : ℕ) (x : Node) → p ≤ n → nodes_right p p (x ∷ []) ≡ true → nodes_right n p (x ∷ []) ≡ true
unfolding nodes_right
wider n p leaf h e = refl
wider n p (gate a b) h e =
    let k = (gate_below p p a b [] e).0 in
    rw (lt-ltb 0 p (omega (arith, k.first_above, k.first_below)), lt-ltb 0 (pin_of a) k.first_above, lt-ltb (pin_of a) n (omega (arith, k.first_below)), lt-ltb 0 (pin_of b) k.second_above, lt-ltb (pin_of b) n (omega (arith, k.second_below)))

lower : (gates : List ℕ) (p : ℕ) → p < pin_count gates → nodes_right p p (node_of (get_or gates (2 * p) 0) (get_or gates (2 * p + 1) 0) ∷ []) ≡ true → Lower gates p
lower gates p h e = record {
  operands = λ x i. (operand_above p (get_or (graph_of gates) p leaf) x (λ a b d. gates_below p p (node_of (get_or gates (2 * p) 0) (get_or gates (2 * p + 1) 0) ∷ []) e 0 a b (sym (graph_at gates p h) ∙ d)) (below_in (graph_of gates) [] p x i).1).1;
}

-- the gates below pin p rise
pub record RisingLeft (gates : List ℕ) (pins p : ℕ) : Type 0 where
  pub left : NodesLeft gates pins p
  pub lower : (q : ℕ) → q < p → Lower gates q

-- before pin 0 there is no gate, so all rise
pub rising_begin : (gates : List ℕ) (pins : ℕ) → pins ≡ pin_count gates → RisingLeft gates pins 0
rising_begin gates pins e = record { left = nodes_begin gates pins e; lower = λ q h. absurd (omega arith) }

module _ (gates : List ℕ) (pins p : ℕ) (l : RisingLeft gates pins p) where
  -- a gate that is right among the pins below it rises too
  pub rising_more : {x : Node} {r : Bool} → x ≡ node_of (get_or gates (2 * p) 0) (get_or gates (2 * p + 1) 0) → r ≡ nodes_right p p (x ∷ []) → p < pins → not r ≡ false → RisingLeft gates pins (p + 1)
  rising_more {x} {r} ex er h t =
      let e : nodes_right p p (x ∷ []) ≡ true = yes er t in
      record {
        left = nodes_more gates pins p l.left {r = true} ex (sym (wider pins p x (omega arith) e)) h refl;
        lower = below_more _ _ l.lower (lower gates p (omega (arith, pins_are gates pins p l.left)) (rw ex at e));
      }

  -- the gates below pin p rise, whatever follows them
  pub rising : Rising gates p
  rising = let d = pins_are gates pins p l.left in record {
    upto = omega (arith, l.left.upto);
    same = rw d at l.left.same;
    lower = l.lower;
  }

  -- when all pins are gone through all gates rise
  pub rising_end : pins ≤ p → Rising gates pins
  rising_end h = let e : p ≡ pins = omega (arith, l.left.upto) in rw e at rising

-- the nodes from such a pin on are left
pub rising_left : (gates : List ℕ) (pins p : ℕ) → pins ≡ pin_count gates → Rising gates p → NodesLeft gates pins p
rising_left gates pins p e R = let b = nodes_begin gates pins e in record { even = b.even; last = b.last; upto = omega (arith, R.upto); same = rw e R.same }

-- where all gates rise the graph is right, and free of loops
module _ (gates : List ℕ) (s : graph_sized gates ≡ true) (p : ℕ) (R : Rising gates p) (e : p ≡ pin_count gates) where
  -- such a graph passes check 3
  pub rising_right : graph_right gates ≡ true
  rising_right = size_right gates s ∙ R.same ∙ nodes_end (pin_count gates) gates p (omega arith)

  -- such a graph has no loop
  pub rising_free : loops_right gates ≡ true
  unfolding loops_right
  rising_free = lower_loopless gates (inside gates rising_right) (λ q h. R.lower q (omega arith))

-- A graph that the scope document's own rule accepts (each gate's pins above 0 and below its own) is accepted: neither 3 nor 23 applies. Its plan is
-- that of the same definitions, which do not look at the order.
pub in_order_accepted : (gates : List ℕ) → graph_sized gates ≡ true → ((p : ℕ) → p < pin_count gates → nodes_right p p (node_of (get_or gates (2 * p) 0) (get_or gates (2 * p + 1) 0) ∷ []) ≡ true) → (graph_right gates ≡ true) × (loops_right gates ≡ true)
in_order_accepted gates s below =
    let R = rising gates (pin_count gates) (pin_count gates) (all (pin_count gates) (omega arith)) in
    (rising_right gates s (pin_count gates) R refl, rising_free gates s (pin_count gates) R refl)
  where
    all : (n : ℕ) → n ≤ pin_count gates → RisingLeft gates (pin_count gates) n
    all zero h = rising_begin gates (pin_count gates) refl
    all (suc n) h = rw (add-one n) at (rising_more gates (pin_count gates) n (all n (omega arith)) {r = true} refl (sym (below n (omega arith))) (omega arith) refl)
