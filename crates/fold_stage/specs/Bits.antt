-- The bits of one stage: what is asked and left when its cells are folded. Assumes nothing.
use Rattle.std.specs.Prelude.{ℕ, suc, ◌+◌, ◌*◌, ◌^◌, ◌≤◌, ◌<◌, ◌≡◌, Bool, true, List, length, get_or}
use Rattle.rules.specs.Cells.{is_height, first_lower, second_lower}
use Rattle.rules.specs.Fold.{as_number}
use Rattle.rules.specs.Coded.{bit_of, cell_bits}

-- the cells of a stage of height K
pub record StageAt (K : ℕ) (cells : List ℕ) : Type 0 where
  pub height : is_height K ≡ true
  pub low : 1 ≤ 2 ^ K
  pub high : 2 ^ K ≤ 8192
  pub double : 2 ^ (K + 1) ≡ 2 * 2 ^ K
  pub size : length cells ≡ 2 ^ (K + 1)

-- the positions from p on hold their bits
pub record RightFrom (K : ℕ) (cells : List ℕ) (load : ℕ → Bool) (p : ℕ) (bits : List ℕ) : Type 0 where
  pub bit : (q : ℕ) → p ≤ q → q < 2 ^ (K + 1) → get_or bits q 0 ≡ as_number (bit_of K cells load q)

-- a cell and its lower cells are in the stage
pub record CellAt (p : ℕ) (cells bits : List ℕ) : Type 0 where
  pub here : p < length cells
  pub first : first_lower p < length cells
  pub second : second_lower p < length cells
  pub same : length bits ≡ length cells

-- what a stage loads is no value of the program, so this is said of every load that fits
pub record CellFolds (cells bits : List ℕ) (p : ℕ) (r : Bool) : Type 0 where
  pub all : (K : ℕ) (load : ℕ → Bool) → 1 ≤ p → p < 2 ^ K → RightFrom K cells load (suc p) bits → r ≡ bit_of K cells load p

pub record UpAt (K : ℕ) (cells bits : List ℕ) : Type 0 where
  pub stage : StageAt K cells
  pub same : length bits ≡ length cells

-- from level 0 up: all the stage's bits
pub record FoldsUp (K : ℕ) (cells bits bits' : List ℕ) : Type 0 where
  pub all : (load : ℕ → Bool) → RightFrom K cells load (2 ^ K) bits → bits' ≡ cell_bits K cells load
