-- Literals, and the gates of a lent graph. Assumes nothing.
use Prim.Native.Nat.{ℕ, zero, suc, ◌+◌, ◌*◌, ◌/◌, ◌%◌, ◌^◌, ◌≤◌, ◌<◌}
use mathlib.Core.List.{List, [], ◌∷◌}
use mathlib.Core.Path.{◌≡◌, refl, sym, ap, ◌∙◌}
use mathlib.Core.Logic.{◌⊎◌, inl, inr}
use native.Mathlib.Omega.{arith}
use lib.Dec.{ltb, eqb}
use lib.ListN.{length, get_or, drop, get_or-eq_default}
use lib.Seq.{drop-cons}
use borrow.Author.Tests.{lt-ltb, le-ltb, eq-eqb, ne_eqb}
use Rattle.rules.specs.Cells.{empty}
use Rattle.rules.specs.Graph.{leaf, gate, pin_of, inversion_of, literal_of, node_of, graph_of, pin_count}
use Rattle.std.specs.Prelude.{Some, None}
use Rattle.graph.specs.Values.{made_literal}
use Rattle.rules.proofs.Bools.{and_none}

-- a pin of 31 bits and an inversion make a literal
pub literal_made : (p i : ℕ) → p ≤ 2147483647 → i ≤ 1 → Some (record { 0 = 2 * p + i }) ≡ made_literal p i
unfolding made_literal literal_of
literal_made p i a b = rw (lt-ltb i 2 (omega arith), lt-ltb (2 * p + i) (2 ^ 32) (omega arith), made_literal)

-- a greater pin or another inversion makes none
pub literal_refused : (p i : ℕ) → (2147483647 < p) ⊎ (1 < i) → None ≡ made_literal p i
unfolding made_literal literal_of
literal_refused p i (inl a) = rw (le-ltb (2 * p + i) (2 ^ 32) (omega arith), and_none (ltb i 2), made_literal)
literal_refused p i (inr a) = rw (le-ltb i 2 (omega arith), made_literal)

-- a literal's pin and inversion make it again
pub literal_back : (l : ℕ) → l < 2 ^ 32 → made_literal (pin_of l) (inversion_of l) ≡ Some (record { 0 = l })
unfolding pin_of inversion_of
literal_back l h = sym (literal_made (l / 2) (l % 2) (omega arith) (omega arith)) ∙ ap (λ (n : ℕ). Some (record { 0 = n })) (omega arith)

-- two empty marks are a leaf
pub node_leaf : (a b : ℕ) → a ≡ 4294967295 → b ≡ 4294967295 → leaf ≡ node_of a b
unfolding node_of empty
node_leaf a b d e = rw (eq-eqb a 4294967295 d, eq-eqb b 4294967295 e, node_of)

-- if one number is no empty mark the two are a gate
pub node_gate : (a b : ℕ) → (a ≡ 4294967295 → ⊥) ⊎ (b ≡ 4294967295 → ⊥) → gate a b ≡ node_of a b
unfolding node_of empty
node_gate a b (inl n) = rw (ne_eqb a 4294967295 n, node_of)
node_gate a b (inr n) = rw (ne_eqb b 4294967295 n, and_none (eqb a 4294967295), node_of)

-- a graph has as many nodes as it has pins
pub graph_length : (xs : List ℕ) → length (graph_of xs) ≡ pin_count xs
unfolding graph_of pin_count
graph_length [] = refl
graph_length (a ∷ []) = refl
graph_length (a ∷ b ∷ xs) = omega (arith, graph_length xs)

-- reading gate p from the lent numbers
pub graph_at : (xs : List ℕ) (p : ℕ) → p < pin_count xs → get_or (graph_of xs) p leaf ≡ node_of (get_or xs (2 * p) 0) (get_or xs (2 * p + 1) 0)
unfolding graph_of pin_count
graph_at [] p h = absurd (omega arith)
graph_at (a ∷ []) p h = absurd (omega arith)
graph_at (a ∷ b ∷ xs) zero h = refl
graph_at (a ∷ b ∷ xs) (suc p) h =
    let d : 2 * suc p ≡ suc (suc (2 * p)) = omega arith in
    let e : suc (suc (2 * p)) + 1 ≡ suc (suc (2 * p + 1)) = omega arith in
    rw (d, e) (graph_at xs p (omega arith))

-- the numbers from gate p on
pub drop_two : (xs : List ℕ) (p : ℕ) → p < pin_count xs → drop (2 * p) xs ≡ get_or xs (2 * p) 0 ∷ get_or xs (2 * p + 1) 0 ∷ drop (2 * (p + 1)) xs
unfolding pin_count
drop_two xs p h =
    let d : 2 * (p + 1) ≡ suc (suc (2 * p)) = omega arith in
    let e : 2 * p + 1 ≡ suc (2 * p) = omega arith in
    rw (d, e, drop-cons xs (2 * p) 0 (omega arith), drop-cons xs (suc (2 * p)) 0 (omega arith))

-- reading a gate, from what the code tests
module _ (gates : List ℕ) (p q m : ℕ) (ep : q ≡ p) (em : m ≡ pin_count gates) where
  -- past the last pin there is a leaf
  pub node_past : m ≤ q → leaf ≡ get_or (graph_of gates) p leaf
  node_past h = sym (get_or-eq_default (graph_of gates) leaf (omega (arith, graph_length gates)))

  -- both numbers of a pin stand in the lent list
  pub node_inside : q < m → 2 * q + 1 < length gates
  unfolding pin_count
  node_inside h = omega arith

  -- the two numbers read there are the pin's node
  pub node_there : q < m → node_of (get_or gates (2 * q) 0) (get_or gates (2 * q + 1) 0) ≡ get_or (graph_of gates) p leaf
  node_there h = rw ep (sym (graph_at gates p (omega arith)))
