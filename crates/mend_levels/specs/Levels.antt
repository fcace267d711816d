-- Levels that stop at marked pins, found by passes over all pins. Assumes nothing.
use Rattle.std.specs.Prelude.{ℕ, suc, ◌+◌, ◌≤◌, ◌<◌, min, ◌≡◌, Bool, true, false, List, length, get_or}
use Rattle.rules.specs.Lists.{mem}
use Rattle.rules.specs.Graph.{Node, leaf, operands, graph_of, pin_count}
use Rattle.rules.specs.Traversal.{over}
use Rattle.rules.specs.Depth.{depth}
use Rattle.rules.specs.Loops.{Valid}
use Rattle.plan_check_stage.specs.Marks.{marked}
use Rattle.mending.specs.Mend.{level_in}

-- the marks are those of the pins to stop at
pub record Stops (stop marks : List ℕ) : Type 0 where
  pub says : (n : ℕ) → n < 65536 → marked marks n ≡ mem n stop

-- a pin's level by levels so far
unfoldable pub level_by : List Node → (marks levels : List ℕ) → ℕ → ℕ → ℕ
level_by g marks levels cap p = elim (marked marks p) [ true ↦ 0 | false ↦ min (over (λ q. get_or levels q 0) (operands (get_or g p leaf))) cap ]

-- levels so far: no less than the depth with fuel f, and no more than the whole depth
pub record Between (g : List Node) (stop : List ℕ) (f : ℕ) (levels : List ℕ) : Type 0 where
  pub least : (n : ℕ) → depth f g stop n ≤ get_or levels n 0
  pub most : (n : ℕ) → get_or levels n 0 ≤ level_in g stop n

pub record PassAt (gates levels : List ℕ) : Type 0 where
  pub pins : pin_count gates ≤ 65536
  pub size : pin_count gates ≤ length levels
  pub valid : Valid (graph_of gates)

-- a pass brings them a step of fuel further, as far as the cap; if it changes nothing they were there before
pub record Passed (g : List Node) (marks : List ℕ) (cap : ℕ) (levels levels' : List ℕ) (changed : Bool) : Type 0 where
  pub len : length levels' ≡ length levels
  pub further : (stop : List ℕ) → Stops stop marks → (f : ℕ) → f < cap → Between g stop f levels → Between g stop (suc f) levels'
  pub capped : ((n : ℕ) → get_or levels n 0 ≤ cap) → (n : ℕ) → get_or levels' n 0 ≤ cap
  pub still : changed ≡ false → levels' ≡ levels

pub record LevelsAt (K : ℕ) (gates levels : List ℕ) : Type 0 where
  pub high : K ≤ 13
  pub at : PassAt gates levels

-- each pin's level, K + 1 for any above K
pub record Tells (K : ℕ) (g : List Node) (stop levels : List ℕ) : Type 0 where
  pub each : (n : ℕ) → get_or levels n 0 ≡ min (level_in g stop n) (K + 1)

pub record Levelled (K : ℕ) (g : List Node) (marks levels levels' : List ℕ) : Type 0 where
  pub len : length levels' ≡ length levels
  pub tells : (stop : List ℕ) → Stops stop marks → Tells K g stop levels'
