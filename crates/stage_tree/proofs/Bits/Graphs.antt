-- The levels and gates as the code reads them. Assumes nothing.
use Prim.Native.Nat.{ℕ, zero, suc, ◌+◌, ◌*◌, ◌<◌, ◌≤◌}
use mathlib.Core.Path.{◌≡◌, sym, ap, ◌∙◌}
use mathlib.Core.Bool.{◌&&◌}
use mathlib.Core.List.{List, [], ◌∷◌}
use native.Mathlib.Omega.{arith}
use lib.Dec.{eqb}
use lib.ListN.{length, get_or}
use Rattle.rules.specs.Cells.{empty}
use Rattle.rules.specs.Graph.{leaf, gate, pin_of, node_of, graph_of}
use Rattle.rules.specs.Traversal.{level_at}
use Rattle.rules.specs.Lists.{In}
use Rattle.rules.proofs.Lists.Members.{split}
use Rattle.rules.proofs.Tree.Loads.{leaf_level, first, second}
use Rattle.rules.proofs.Tree.Held.{node}
use Rattle.columns.specs.Fields.{LEVEL}
use Rattle.columns.proofs.Area.Columns.{get_or_col}
use Rattle.stage_walk.specs.Stands.{Context, Base, Levelled}

-- the level column has a pin's level
pub level_at_lem : {C : Context} {m : ℕ} {u : List ℕ} → Levelled C m u → (p : ℕ) → p < m → get_or u (LEVEL * m + p) 0 ≡ level_at C.X p
unfolding level_at
level_at_lem {C} {m} {u} l p h = sym (get_or_col LEVEL m u p h) ∙ ap (λ (c : List ℕ). get_or c p 0) l.levels

node_gate : (a b x y : ℕ) → node_of a b ≡ gate x y → (a ≡ x) × (b ≡ y)
unfolding node_of
node_gate a b x y e = split (eqb a empty && eqb b empty)
    (λ d. let z : leaf ≡ gate x y = rw (d, node_of) at e in absurd (let k : ◌≡◌ {A = ℕ} 0 1 = cc in omega arith))
    (λ d. let z : gate a b ≡ gate x y = rw (d, node_of) at e in (cc, cc))

-- a gate's literals stand at twice its pin
graph_gate : (gates : List ℕ) (p x y : ℕ) → get_or (graph_of gates) p leaf ≡ gate x y → (get_or gates (2 * p) 0 ≡ x) × (get_or gates (2 * p + 1) 0 ≡ y)
unfolding graph_of
graph_gate [] p x y e = absurd (let k : ◌≡◌ {A = ℕ} 0 1 = cc in omega arith)
graph_gate (a ∷ []) p x y e = absurd (let k : ◌≡◌ {A = ℕ} 0 1 = cc in omega arith)
graph_gate (a ∷ b ∷ xs) zero x y e = node_gate a b x y e
graph_gate (a ∷ b ∷ xs) (suc p) x y e =
    let z : 2 * suc p ≡ suc (suc (2 * p)) = omega arith in
    let o : 2 * suc p + 1 ≡ suc (suc (2 * p + 1)) = omega arith in
    let k = graph_gate xs p x y e in
    (rw z k.0, rw o k.1)

-- the pins of a gate of level 1 or more
pub record Operands (C : Context) (n a b : ℕ) : Type 0 where
  pub x : ℕ
  pub y : ℕ
  pub is : get_or C.X.g n leaf ≡ gate x y
  pub left : a ≡ pin_of x
  pub right : b ≡ pin_of y
  pub one : In a C.X.seen
  pub two : In b C.X.seen

-- the pins that the code reads of a gate are its operands, and listed
pub operands : {C : Context} {m : ℕ} {gates u : List ℕ} → Base C m gates u → (n : ℕ) → In n C.X.seen → 1 ≤ level_at C.X n →
    (a b : ℕ) → a ≡ pin_of (get_or gates (2 * n) 0) → b ≡ pin_of (get_or gates (2 * n + 1) 0) → Operands C n a b
unfolding pin_of
operands {C} {m} {gates} B n i l a b ea eb = node (get_or C.X.g n leaf)
    (λ e. absurd (omega (arith, leaf_level C.X C.r (length C.X.g) C.S n i e)))
    (λ x y e.
    let k = graph_gate gates n x y (rw B.graph at e) in
    let d1 : a ≡ pin_of x = ea ∙ ap pin_of k.0 in
    let d2 : b ≡ pin_of y = eb ∙ ap pin_of k.1 in
    record {
      x = x;
      y = y;
      is = e;
      left = d1;
      right = d2;
      one = rw d1 (first C.X C.r (length C.X.g) C.S n x y i l e).0;
      two = rw d2 (second C.X C.r (length C.X.g) C.S n x y i l e).0;
    })
