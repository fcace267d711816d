-- Where a build stands between its stages, and the stages completed until then. Assumes nothing.
use Rattle.std.specs.Prelude.{ℕ, zero, suc, ◌+◌, ◌-◌, ◌≡◌, true, false, List, [], ◌∷◌, ◌++◌, length}
use Rattle.rules.specs.Cells.{word_limit}
use Rattle.rules.specs.Graph.{Node}
use Rattle.rules.specs.Records.{Group, waiting_of}
use Rattle.rules.specs.Reservation.{reserved, reservable}
use Rattle.rules.specs.Traversal.{WordRule}
use Rattle.rules.specs.Ending.{refused, stage, one_stage}
use Rattle.rules.specs.Build.{Stage, before, stages, build, words_of}

-- the given and realised pins, the pins that wait, the words that may still be written; or none, where so many stages were not completed
pub data State : Type 0 where
  none : State
  state : (done waiting : List ℕ) (room : ℕ) → State

-- s completed stages on
unfoldable pub after_from : WordRule → ℕ → List Node → ℕ → List ℕ → List ℕ → ℕ → State
after_from rule K g zero done waiting room = state done waiting room
after_from rule K g (suc s) done [] room = none
after_from rule K g (suc s) done (w ∷ ws) room =
    elim (one_stage rule K g done (w ∷ ws) room) [
      | refused n ↦ none
      | stage plan words realised waiting ↦ after_from rule K g s (realised ++ done) waiting (room - length words)
    ]

-- after s completed stages of a build
unfoldable pub after : WordRule → ℕ → List Node → (given : List ℕ) → List Group → ℕ → State
after rule K g given groups s =
    elim (reservable K groups) [
      | true ↦ after_from rule K g s given (waiting_of groups []) (word_limit K - reserved groups)
      | false ↦ none
    ]

-- the first s stages from a state on, as far as they are completed
unfoldable pub first_from : WordRule → ℕ → List Node → ℕ → List ℕ → List ℕ → ℕ → List Stage
first_from rule K g zero done waiting room = []
first_from rule K g (suc s) done [] room = []
first_from rule K g (suc s) done (w ∷ ws) room =
    elim (one_stage rule K g done (w ∷ ws) room) [
      | refused n ↦ []
      | stage plan words realised waiting ↦ record { plan = plan; words = words } ∷ first_from rule K g s (realised ++ done) waiting (room - length words)
    ]

-- the first s stages of a build, as far as they are completed
unfoldable pub first_stages : WordRule → ℕ → List Node → (given : List ℕ) → List Group → ℕ → List Stage
first_stages rule K g given groups s =
    elim (reservable K groups) [
      | true ↦ first_from rule K g s given (waiting_of groups []) (word_limit K - reserved groups)
      | false ↦ []
    ]

-- a build with so many rooms is its first s stages, and then what the rules make of the state behind them; with the words that may still be
-- written theirs are W - reserved
pub record SoFar (rule : WordRule) (K : ℕ) (g : List Node) (given : List ℕ) (groups : List Group) (rooms s : ℕ) (done waiting : List ℕ) (room : ℕ) : Type 0 where
  pub count : length (first_stages rule K g given groups s) ≡ s
  pub same : build rule K g given groups rooms ≡ before (first_stages rule K g given groups s) (stages rule K g (rooms - s) (suc s) done waiting room)
  pub left : length (words_of (first_stages rule K g given groups s)) + room ≡ word_limit K - reserved groups
