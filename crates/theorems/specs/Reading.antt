-- Where a pin of a whole plan is held, and where it is written. Assumes nothing.
use Rattle.std.specs.Prelude.{ℕ, ◌/◌, ◌≤◌, ◌<◌, ◌≡◌, List, length, get_or}
use Rattle.rules.specs.Lists.{In}
use Rattle.rules.specs.Cells.{empty, width}
use Rattle.rules.specs.Build.{Stage, stage_of}

-- a position above level 0 that holds pin q
pub record Held (K : ℕ) (plan : List ℕ) (q : ℕ) : Type 0 where
  pub position : ℕ
  pub low : 1 ≤ position
  pub high : position < width K
  pub holds : get_or plan position empty ≡ q

-- a stage, a word in its list and a cell of that word that holds pin q
pub record Shown (K : ℕ) (ss : List Stage) (q : ℕ) : Type 0 where
  pub stage : ℕ
  pub built : stage < length ss
  pub cell : Held K (stage_of ss stage).plan q
  pub written : In (cell.position / 32) (stage_of ss stage).words
