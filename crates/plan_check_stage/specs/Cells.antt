-- What is asked and said of a stage's cells. The given pins are those that have marks. Assumes nothing.
use Rattle.std.specs.Prelude.{ℕ, ◌+◌, ◌-◌, ◌*◌, ◌^◌, ◌≤◌, ◌<◌, ◌≡◌, Bool, true, false, Option, Some, None, List, length, get_or}
use Rattle.rules.specs.Lists.{Found, nothing, found, mem}
use Rattle.rules.specs.Cells.{is_height, stage_size, word_limit}
use Rattle.rules.specs.Graph.{Node, leaf}
use Rattle.rules.specs.Fold.{is_leaf}
use Rattle.rules.specs.Faults.{right_above, right_at, first_not, first_may}
use Rattle.plan_check_stage.specs.Marks.{marked}

-- the marks are those of some given pins
pub record Gives (given marks : List ℕ) : Type 0 where
  pub says : (n : ℕ) → marked marks n ≡ mem n given

-- what stage 1 may load, and what a later one whose loads have marks
unfoldable pub may_of : Bool → List Node → (given looks : List ℕ) → ℕ → Bool
may_of true g given looks n = first_may g given n
may_of false g given looks n = marked looks n

-- a height and the sizes that it gives
pub record High (K : ℕ) : Type 0 where
  pub height : is_height K ≡ true
  pub low : 64 ≤ 2 ^ K
  pub high : 2 ^ K ≤ 8192
  pub double : 2 ^ (K + 1) ≡ 2 * 2 ^ K
  pub half : 2 * 2 ^ (K - 1) ≡ 2 ^ K
  pub words : 32 * word_limit K ≡ 2 ^ K

-- the cells of a stage
pub record StageHere (K : ℕ) (cells : List ℕ) : Type 0 where
  pub tall : High K
  pub size : length cells ≡ 2 ^ (K + 1)

pub record CellHere (K : ℕ) (cells : List ℕ) (p : ℕ) : Type 0 where
  pub stage : StageHere K cells
  pub one : 1 ≤ p
  pub here : p < length cells

pub record Above (g : List Node) (marks : List ℕ) (c x y : ℕ) (r : Bool) : Type 0 where
  pub is : (given : List ℕ) → Gives given marks → r ≡ right_above g given c x y

pub record Loadable (g : List Node) (n : ℕ) (r : Bool) : Type 0 where
  pub is : r ≡ is_leaf (get_or g n leaf)

pub record Loads (g : List Node) (marks looks : List ℕ) (first : Bool) (n : ℕ) (r : Bool) : Type 0 where
  pub is : (given : List ℕ) → Gives given marks → r ≡ may_of first g given looks n

pub record CellRight (K : ℕ) (g : List Node) (marks looks : List ℕ) (first : Bool) (cells : List ℕ) (p : ℕ) (r : Bool) : Type 0 where
  pub is : (given : List ℕ) → Gives given marks → r ≡ right_at K g given (may_of first g given looks) cells p

-- a position, if there is one
unfoldable pub place_of : Option ℕ → Found
place_of None = nothing
place_of (Some p) = found p

pub record FirstWrong (K : ℕ) (g : List Node) (marks looks : List ℕ) (first : Bool) (cells : List ℕ) (r : Option ℕ) : Type 0 where
  pub is : (given : List ℕ) → Gives given marks → first_not (right_at K g given (may_of first g given looks) cells) (stage_size K - 1) 1 ≡ place_of r
