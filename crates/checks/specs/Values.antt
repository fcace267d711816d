-- What the checks of a graph ask and say. Assumes nothing.
use Rattle.std.specs.Prelude.{ℕ, Result, ◌*◌, ◌%◌, ◌≤◌, ◌<◌, Bool, true, false, ◌&&◌, List, [], ◌∷◌, ◌≡◌, leb, eqb, length, drop}
use Rattle.rules.specs.Graph.{gate, graph_of, pin_count}
use Rattle.rules.specs.Checks.{nodes_right, graph_right, loops_right, pin_shown}
use Rattle.graph_loops.specs.Marks.{Lower}
use Rattle.refusals.specs.declared.Refusal.{Refusal}
use Rattle.refusals.specs.Numbers.{number_said, pin_said}

-- may literal l be an operand among n pins: is a gate of l alone right there
unfoldable pub operand_right : ℕ → ℕ → Bool
operand_right n l = nodes_right n 1 (gate l l ∷ [])

-- check 3 without its gates
unfoldable pub graph_sized : List ℕ → Bool
graph_sized gates = eqb (length gates % 2) 0 && leb 1 (pin_count gates) && leb (pin_count gates) 65536

-- the first of 3 and 23 that applies, or 0
unfoldable pub graph_refusal : List ℕ → ℕ
graph_refusal gates = elim (graph_right gates) [ false ↦ 3 | true ↦ elim (loops_right gates) [ false ↦ 23 | true ↦ 0 ] ]

-- the gates before pin p have operands below them only, so they are right
pub record Rising (gates : List ℕ) (p : ℕ) : Type 0 where
  pub upto : p ≤ pin_count gates
  pub same : nodes_right (pin_count gates) 0 (graph_of gates) ≡ nodes_right (pin_count gates) p (graph_of (drop (2 * p) gates))
  pub lower : (q : ℕ) → q < p → Lower gates q

-- number n, 0 where nothing is refused, and the pin shown with it
pub record Says {A : Type 0} (n : ℕ) (gates : List ℕ) (r : Result A Refusal) : Type 0 where
  pub number : number_said r ≡ n
  pub pin : pin_said r ≡ pin_shown n gates
