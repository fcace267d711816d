-- Damage that mending takes back: of cells that a cell above fixes, and of kinds and inversions anywhere. Assumes nothing.
use Rattle.std.specs.Prelude.{ℕ, ◌<◌, ◌≡◌, false, List, [], ◌∷◌, ◌++◌, length, get_or}
use Rattle.rules.specs.Cells.{empty, filled}
use Rattle.rules.specs.Graph.{Node}
use Rattle.rules.specs.Coded.{cell_pin}
use Rattle.rules.specs.Build.{Stage}
use Rattle.mending.specs.Mend.{fixed_stage, stop_after}

-- what is fixed at each place of a plan, stage after stage; the empty mark at the tops of trees, and where no tree is
unfoldable pub fixed_pins : ℕ → List Node → List ℕ → List Stage → List ℕ
fixed_pins K g stop [] = []
fixed_pins K g stop (s ∷ ss) = fixed_stage K g stop s.plan ++ fixed_pins K g (stop_after K s.plan stop) ss

-- `bad` is what came back of `good`, a plan area with these stages: of the same length, and with the same pin at every place that no cell above
-- fixes, behind the stages too. A cell's pin says nothing of its kind and its inversions
pub record Damaged (K : ℕ) (g : List Node) (given : List ℕ) (ss : List Stage) (good bad : List ℕ) : Type 0 where
  pub size : length bad ≡ length good
  pub tops : (i : ℕ) → i < length good → filled (get_or (fixed_pins K g given ss) i empty) ≡ false → cell_pin (get_or bad i empty) ≡ cell_pin (get_or good i empty)
