-- Duplicates while activations are counted, and runs while they are filled. Assumes nothing.
use Rattle.std.specs.Prelude.{ℕ, ◌+◌, ◌≤◌, List, [], ◌∷◌, map}
use Rattle.rules.specs.Lists.{distinct}
use Rattle.rules.specs.Reservation.{Activation, extra_at}
use Rattle.rules.specs.Ending.{Sparse}

-- the pins that some activations name
abbrev pub pins_met : List Activation → List ℕ
pins_met ys = distinct (map (λ (a : Activation). a.pin) ys)

-- their duplicates
abbrev pub repeats : List Activation → ℕ
repeats ys = extra_at (pins_met ys) ys

-- runs that lie inside level 1
pub data Runs (m : ℕ) : List Sparse → Type 0 where
  none : Runs m []
  more : {r : Sparse} {rs : List Sparse} → r.start + 32 ≤ m → Runs m rs → Runs m (r ∷ rs)
