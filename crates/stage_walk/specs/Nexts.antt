-- What the code tells of the pins that are followed. Assumes nothing.
use Rattle.std.specs.Prelude.{ℕ, ◌≡◌, List, [], ◌∷◌, get_or, Option, Some, None}
use Rattle.graph.specs.declared.Pin.{Pin}

-- all of them: two or none
abbrev pub follows : List ℕ → Option (Pin × Pin) → Type 0
follows bs (Some q) = bs ≡ q.0.0 ∷ q.1.0 ∷ []
follows bs None = bs ≡ []

-- the k-th alone: m stands for none
abbrev pub leads : ℕ → List ℕ → ℕ → Option Pin → Type 0
leads m bs k (Some q) = (q.0 ≡ get_or bs k m) × (q.0 ≡ m → ⊥)
leads m bs k None = m ≡ get_or bs k m
