-- Stage after stage: what is asked and left of the result area and the numbers by pin. Assumes nothing.
use Rattle.std.specs.Prelude.{ℕ, ◌+◌, ◌-◌, ◌*◌, ◌%◌, ◌^◌, ◌≤◌, ◌<◌, ◌≡◌, Bool, true, List, ◌++◌, length, get_or, take, drop}
use Rattle.rules.specs.Lists.{nothing}
use Rattle.rules.specs.Cells.{is_height}
use Rattle.rules.specs.Fold.{lowest}
use Rattle.rules.specs.Coded.{pins, cell_bits, load_of}
use Rattle.fold_stage.specs.Bits.{StageAt, UpAt}
use Rattle.fold_stage.specs.Loads.{held}

-- the numbers are 0 but for pins that stand above level 0 of some cells
pub record Only (K : ℕ) (cells l : List ℕ) : Type 0 where
  pub none : (n : ℕ) → n < length l → lowest K (pins cells) n ≡ nothing → get_or l n 0 ≡ 0

-- the numbers are what the stage after these cells loads
pub record Left (K : ℕ) (load : ℕ → Bool) (cells l l' : List ℕ) : Type 0 where
  pub len : length l' ≡ length l
  pub next : held l' ≡ load_of K cells load
  pub only : Only K cells l'

-- a stage is folded, and the loads of the next one are there
pub record Folds (K : ℕ) (load : ℕ → Bool) (cells b l l' : List ℕ) : Type 0 where
  pub bits : b ≡ cell_bits K cells load
  pub left : Left K load cells l l'

-- stage 1
pub record OneAt (K : ℕ) (cells result l : List ℕ) : Type 0 where
  pub up : UpAt K cells result
  pub size : length l ≡ 65536

-- a later stage, whose loads are there, and the one before
pub record NextAt (K : ℕ) (before cells result l : List ℕ) : Type 0 where
  pub up : UpAt K cells result
  pub last : StageAt K before
  pub size : length l ≡ 65536
  pub only : Only K before l

-- what passed the checks
pub record PlanAt (K : ℕ) (plan w : List ℕ) : Type 0 where
  pub height : is_height K ≡ true
  pub low : 1 ≤ 2 ^ K
  pub high : 2 ^ K ≤ 8192
  pub double : 2 ^ (K + 1) ≡ 2 * 2 ^ K
  pub whole : length plan % 2 ^ (K + 1) ≡ 0
  pub room : length plan ≤ length w

-- the stage at `at` of a plan
abbrev pub stage_from : ℕ → ℕ → List ℕ → List ℕ
stage_from K at plan = take (2 ^ (K + 1)) (drop at plan)

-- the stage at `at` is a later one, and its loads are there
pub record StepAt (K : ℕ) (plan : List ℕ) (at : ℕ) (w l : List ℕ) : Type 0 where
  pub passed : PlanAt K plan w
  pub before : 2 ^ (K + 1) ≤ at
  pub here : at + 2 ^ (K + 1) ≤ length plan
  pub size : length l ≡ 65536
  pub only : Only K (stage_from K (at - 2 ^ (K + 1)) plan) l

-- it is folded in its place of the result area
pub record Steps (K : ℕ) (load : ℕ → Bool) (cells : List ℕ) (at : ℕ) (w w' l l' : List ℕ) : Type 0 where
  pub area : w' ≡ take at w ++ (cell_bits K cells load ++ drop (at + 2 ^ (K + 1)) w)
  pub left : Left K load cells l l'
