-- Stages of cells that may be run: those that the check of plans accepts. Assumes nothing.
use Rattle.std.specs.Prelude.{ℕ, ◌≡◌, List, [], ◌∷◌, length}
use Rattle.rules.specs.Cells.{stage_size}
use Rattle.rules.specs.Graph.{graph_of}
use Rattle.rules.specs.Records.{groups_of}
use Rattle.rules.specs.Build.{Stage}
use Rattle.rules.specs.Faults.{faultless, fault_of}

-- every stage has so many cells
abbrev pub Sized : ℕ → List Stage → Type 0
Sized size [] = Unit {0}
Sized size (s ∷ ss) = (length s.plan ≡ size) × Sized size ss

-- of a build of ours, or handed in: each stage has a cell a position, and there is no fault
pub record Accepted (K : ℕ) (gates given records : List ℕ) (ss : List Stage) : Type 0 where
  pub sized : Sized (stage_size K) ss
  pub right : fault_of K (graph_of gates) given (groups_of records) ss ≡ faultless
