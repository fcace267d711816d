-- Check 3 gate by gate. Assumes nothing.
use Prim.Native.Nat.{ℕ, suc, ◌+◌, ◌*◌, ◌≤◌, ◌<◌}
use mathlib.Core.Bool.{true, false, ◌&&◌}
use mathlib.Core.List.{List, [], ◌∷◌}
use mathlib.Core.Path.{◌≡◌, refl}
use native.Mathlib.Numerals.{add-one}
use native.Mathlib.Omega.{arith}
use lib.Dec.{ltb}
use lib.ListN.{length, get_or, drop, length-drop}
use borrow.Author.Tests.{lt-ltb}
use Rattle.rules.specs.Graph.{Node, leaf, gate, pin_of, node_of, graph_of, pin_count}
use Rattle.rules.specs.Checks.{nodes_right}
use Rattle.rules.proofs.Lists.Members.{split}
use Rattle.rules.proofs.Bools.{and_right, and_assoc}
use Rattle.graph.proofs.Gates.{drop_two}
use Rattle.checks.specs.Values.{operand_right}

node_alone : (n p : ℕ) (x : Node) (g : List Node) → nodes_right n p (x ∷ g) ≡ nodes_right n p (x ∷ []) && nodes_right n (suc p) g
unfolding nodes_right
node_alone n p leaf g = refl
node_alone n p (gate a b) g = rw (and_right (ltb 0 p && ltb 0 (pin_of a) && ltb (pin_of a) n && ltb 0 (pin_of b) && ltb (pin_of b) n))

-- check 3 from pin p on: gate p, then the gates behind it
pub nodes_step : (n : ℕ) (xs : List ℕ) (p : ℕ) → p < pin_count xs →
    nodes_right n p (graph_of (drop (2 * p) xs)) ≡ nodes_right n p (node_of (get_or xs (2 * p) 0) (get_or xs (2 * p + 1) 0) ∷ []) && nodes_right n (p + 1) (graph_of (drop (2 * (p + 1)) xs))
unfolding graph_of
nodes_step n xs p h = rw (drop_two xs p h, add-one p) (node_alone n p (node_of (get_or xs (2 * p) 0) (get_or xs (2 * p + 1) 0)) (graph_of (drop (2 * suc p) xs)))

none_left : (n p : ℕ) (ys : List ℕ) → length ys ≤ 1 → nodes_right n p (graph_of ys) ≡ true
unfolding graph_of nodes_right
none_left n p [] h = refl
none_left n p (a ∷ []) h = refl
none_left n p (a ∷ b ∷ ys) h = absurd (omega arith)

-- past the last pin no gate is left to check
pub nodes_end : (n : ℕ) (xs : List ℕ) (p : ℕ) → pin_count xs ≤ p → nodes_right n p (graph_of (drop (2 * p) xs)) ≡ true
unfolding pin_count
nodes_end n xs p h = none_left n p (drop (2 * p) xs) (rw (length-drop (2 * p) xs) (omega arith))

-- a gate of a pin above 0 is right where both literals are
pub operand_test : (n l : ℕ) → operand_right n l ≡ ltb 0 (pin_of l) && ltb (pin_of l) n
unfolding operand_right nodes_right
operand_test n l = split (ltb 0 (pin_of l)) (λ t. split (ltb (pin_of l) n) (λ u. simp (t, u)) (λ u. simp (t, u))) (λ t. simp t)

-- pin 0 is no gate
pub gate_zero : (n p a b : ℕ) → p ≡ 0 → false ≡ nodes_right n p (gate a b ∷ [])
unfolding nodes_right
gate_zero n p a b z = rw z

-- a gate of a pin above 0 is right where both its literals are
pub gate_right : (n p a b : ℕ) → (p ≡ 0 → ⊥) → nodes_right n p (gate a b ∷ []) ≡ operand_right n a && operand_right n b
unfolding nodes_right
gate_right n p a b z = rw (lt-ltb 0 p (omega arith), operand_test n a, operand_test n b, and_right (ltb 0 (pin_of a) && ltb (pin_of a) n && ltb 0 (pin_of b) && ltb (pin_of b) n), and_assoc (ltb 0 (pin_of a) && ltb (pin_of a) n) (ltb 0 (pin_of b)) (ltb (pin_of b) n))

-- a literal's pin, tested
module _ (n l q : ℕ) (e : q ≡ pin_of l) where
  -- pin 0 is no operand
  pub operand_zero : q ≡ 0 → false ≡ operand_right n l
  operand_zero z = rw (operand_test n l, ← e, z)

  -- a pin above 0 is an operand exactly where it is below n
  pub operand_below : (q ≡ 0 → ⊥) → ltb q n ≡ operand_right n l
  operand_below z = rw (operand_test n l, ← e, lt-ltb 0 q (omega arith))
