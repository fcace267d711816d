-- Marks by pin, 0 or not 0, on the pins that may be on a loop. Assumes nothing.
use Rattle.std.specs.Prelude.{◌≡◌, Bool, true, false, List, [], ℕ, ◌+◌, ◌<◌, ◌≤◌, eqb, ◌⊎◌, length, get_or}
use Rattle.rules.specs.Lists.{count, In}
use Rattle.rules.specs.Graph.{graph_of, pin_count, below}
use Rattle.rules.specs.Loops.{From, Loop}

-- every pin on a loop has a mark
pub record Kept (gates v : List ℕ) : Type 0 where
  pub few : pin_count gates ≤ 65536
  pub size : pin_count gates ≤ length v
  pub loops : (p : ℕ) → Loop (graph_of gates) p → get_or v p 0 ≡ 0 → ⊥

-- a graph that check 3 lets pass
pub record Inside (gates : List ℕ) : Type 0 where
  pub few : pin_count gates ≤ 65536
  pub pins : (p x : ℕ) → In x (below (graph_of gates) [] p) → x < pin_count gates

-- pin p has operands below it only
pub record Lower (gates : List ℕ) (p : ℕ) : Type 0 where
  pub operands : (x : ℕ) → In x (below (graph_of gates) [] p) → x < p

-- its operands have numbers at least d above its own
pub record Rises (gates low : List ℕ) (d p : ℕ) : Type 0 where
  pub operands : (x : ℕ) → In x (below (graph_of gates) [] p) → get_or low p 0 + d ≤ get_or low x 0

-- how many numbers are 0
unfoldable pub zeros : List ℕ → ℕ
zeros v = count (λ x. eqb x 0) v

-- some pins xs are reached, besides those that were; r: one was not before
pub record Step (v v' xs : List ℕ) (r : Bool) : Type 0 where
  pub size : length v' ≡ length v
  pub old : (q : ℕ) → 0 < get_or v q 0 → 0 < get_or v' q 0
  pub new : (q : ℕ) → 0 < get_or v' q 0 → (0 < get_or v q 0) ⊎ In q xs
  pub has : (x : ℕ) → In x xs → x < length v → 0 < get_or v' x 0
  pub same : r ≡ false → v' ≡ v
  pub less : r ≡ true → zeros v' < zeros v
  pub most : zeros v' ≤ zeros v

-- the operands of pin q are reached where it is
pub record Follows (gates : List ℕ) (q : ℕ) (v v' : List ℕ) (r : Bool) : Type 0 where
  pub from : 0 < get_or v q 0 → Step v v' (below (graph_of gates) [] q) r
  pub not : get_or v q 0 ≡ 0 → (v' ≡ v) × (r ≡ false)

-- what is reached grows by pins that are followed from reached ones; where it does not grow, every operand of a reached pin below m is reached
pub record Spread (gates : List ℕ) (m : ℕ) (v v' : List ℕ) (r : Bool) : Type 0 where
  pub size : length v' ≡ length v
  pub old : (q : ℕ) → 0 < get_or v q 0 → 0 < get_or v' q 0
  pub from : (ps : List ℕ) → ((q : ℕ) → 0 < get_or v q 0 → From (graph_of gates) [] ps q) → (q : ℕ) → 0 < get_or v' q 0 → From (graph_of gates) [] ps q
  pub same : r ≡ false → (v' ≡ v) × ((q x : ℕ) → q < m → 0 < get_or v q 0 → In x (below (graph_of gates) [] q) → x < length v → 0 < get_or v x 0)
  pub less : r ≡ true → zeros v' < zeros v
  pub most : zeros v' ≤ zeros v

-- the reached pins are under p, its operands among them
pub record Under (gates : List ℕ) (p : ℕ) (v : List ℕ) : Type 0 where
  pub size : length v ≡ 65536
  pub from : (q : ℕ) → 0 < get_or v q 0 → From (graph_of gates) [] (below (graph_of gates) [] p) q
  pub first : (x : ℕ) → In x (below (graph_of gates) [] p) → 0 < get_or v x 0
