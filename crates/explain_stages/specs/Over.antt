-- The line of a stage that was stopped, from what stopped it. Assumes nothing.
use Rattle.std.specs.Prelude.{ℕ, ◌+◌, ◌-◌, ◌≤◌, List, [], ◌∷◌}
use Rattle.rules.specs.Cells.{level_one_size}
use Rattle.stage.specs.declared.finish.Stopped.{Stopped}
use Rattle.stage.specs.declared.finish.Stopped.TheVariants.{OverWords, NoCell}

-- its counts fit the list's numbers
abbrev pub Few : Stopped → Type 0
Few (OverWords words) = words ≤ 128
Few (NoCell cells waiting) = cells + waiting ≤ 131072

pub record OverAt (K room : ℕ) (s : Stopped) : Type 0 where
  pub low : 6 ≤ K
  pub high : K ≤ 13
  pub left : room ≤ 256
  pub few : Few s

-- 7: the words left and the words wanted; 8: 2^(K-1) - 1, and the level-1 cells filled plus the needed pins left, with both
unfoldable pub over_six : (K stage room : ℕ) → Stopped → List ℕ
over_six K stage room (OverWords words) = 7 ∷ stage ∷ room ∷ words ∷ 0 ∷ 0 ∷ []
over_six K stage room (NoCell cells waiting) = 8 ∷ stage ∷ (level_one_size K - 1) ∷ (cells + waiting) ∷ cells ∷ waiting ∷ []
