-- What the checks say of a graph and of lists of pins. Assumes nothing.
use mathlib.Core.Path.{◌≡◌, refl, ap}
use mathlib.Core.Bool.{true, ◌&&◌}
use mathlib.Core.List.{List, [], ◌∷◌}
use Prim.Native.Nat.{ℕ, zero, suc, ◌*◌, ◌/◌, ◌%◌, ◌<◌, ◌≤◌}
use native.Mathlib.Omega.{arith}
use native.Mathlib.Nat.{div-add-mod'}
use borrow.Author.Tests.{eqb-true, leb-true, ltb-true}
use lib.Dec.{eqb, leb, ltb}
use lib.ListN.{length, get_or}
use Rattle.rules.specs.Graph.{Node, leaf, gate, pin_of, graph_of, pin_count}
use Rattle.rules.specs.Checks.{nodes_right, graph_right, loops_right, given_right}
use Rattle.rules.proofs.Lists.Members.{and_true, every_at}
use Rattle.rules.specs.Loops.{Valid}

-- pins that pass the check are below n
pub pins_right : (n : ℕ) (xs : List ℕ) → given_right n xs ≡ true → (i : ℕ) → i < length xs → get_or xs i 0 < n
unfolding given_right
pins_right n xs e i h = ltb-true (get_or xs i 0) n (every_at (λ p. ltb p n) xs e i h)

inside : (n q : ℕ) (g : List Node) → nodes_right n q g ≡ true → (i a b : ℕ) → get_or g i leaf ≡ gate a b → (pin_of a < n) × (pin_of b < n)
unfolding nodes_right
inside n q [] e i a b d = absurd (let z : ◌≡◌ {A = ℕ} 0 1 = cc in omega arith)
inside n q (leaf ∷ g) e zero a b d = absurd (let z : ◌≡◌ {A = ℕ} 0 1 = cc in omega arith)
inside n q (leaf ∷ g) e (suc i) a b d = inside n (suc q) g e i a b d
inside n q (gate x y ∷ g) e zero a b d =
    let t = (and_true (ltb 0 q && ltb 0 (pin_of x) && ltb (pin_of x) n && ltb 0 (pin_of y) && ltb (pin_of y) n) (nodes_right n (suc q) g) e).0 in
    let s = and_true (ltb 0 q && ltb 0 (pin_of x) && ltb (pin_of x) n && ltb 0 (pin_of y)) (ltb (pin_of y) n) t in
    let r = (and_true (ltb 0 q && ltb 0 (pin_of x) && ltb (pin_of x) n) (ltb 0 (pin_of y)) s.0).0 in
    let o = (and_true (ltb 0 q && ltb 0 (pin_of x)) (ltb (pin_of x) n) r).1 in
    let ex : x ≡ a = cc in
    let ey : y ≡ b = cc in
    (rw (← ex) (ltb-true (pin_of x) n o), rw (← ey) (ltb-true (pin_of y) n s.1))
inside n q (gate x y ∷ g) e (suc i) a b d =
    inside n (suc q) g (and_true (ltb 0 q && ltb 0 (pin_of x) && ltb (pin_of x) n && ltb 0 (pin_of y) && ltb (pin_of y) n) (nodes_right n (suc q) g) e).1 i a b d

-- a graph has one node for each two numbers
pub length_graph : (m : ℕ) (gates : List ℕ) → length gates ≡ 2 * m → length (graph_of gates) ≡ m
unfolding graph_of
length_graph zero [] e = refl
length_graph zero (a ∷ []) e = absurd (omega arith)
length_graph zero (a ∷ b ∷ xs) e = absurd (omega arith)
length_graph (suc m) [] e = absurd (omega arith)
length_graph (suc m) (a ∷ []) e = absurd (omega arith)
length_graph (suc m) (a ∷ b ∷ xs) e = ap suc (length_graph m xs (omega arith))

-- a graph that the checks let pass
pub record Right (m : ℕ) (gates : List ℕ) : Type 0 where
  pub pair : length gates ≡ 2 * m
  pub small : m ≤ 65536
  pub valid : Valid (graph_of gates)

-- what the checks say of it
pub graph_right_lem : (gates : List ℕ) → graph_right gates ≡ true → loops_right gates ≡ true → Right (pin_count gates) gates
unfolding graph_right pin_count loops_right
graph_right_lem gates e f =
    let t = and_true (eqb (length gates % 2) 0 && leb 1 (length gates / 2) && leb (length gates / 2) 65536) (nodes_right (length gates / 2) 0 (graph_of gates)) e in
    let s = and_true (eqb (length gates % 2) 0 && leb 1 (length gates / 2)) (leb (length gates / 2) 65536) t.0 in
    let r = and_true (eqb (length gates % 2) 0) (leb 1 (length gates / 2)) s.0 in
    let pair : length gates ≡ 2 * (length gates / 2) = omega (arith, div-add-mod' (length gates) 2, eqb-true (length gates % 2) 0 r.0) in
    record {
      pair = pair;
      small = leb-true (length gates / 2) 65536 s.1;
      valid = record { inside = λ p a b d. rw (length_graph (length gates / 2) gates pair) (inside (length gates / 2) 0 (graph_of gates) t.1 p a b d); free = f };
    }
