-- Where a user reads a pin of a plan of cells. Assumes nothing.
use Rattle.std.specs.Prelude.{ℕ, suc, ◌+◌, ◌*◌, ◌/◌, ◌≤◌, ◌<◌, ◌≡◌, List, get_or, take}
use Rattle.rules.specs.Lists.{sum}
use Rattle.rules.specs.Cells.{empty, width, stage_size}
use Rattle.rules.specs.Coded.{cell_pin}

-- of n stages in the lent areas, with the folded bits: number `at` of the words is one of the stage's, and names the word of a position whose
-- cell holds pin q and whose bit is b
pub record Read (K n : ℕ) (plan words counts result : List ℕ) (q b : ℕ) : Type 0 where
  pub stage : ℕ
  pub at : ℕ
  pub position : ℕ
  pub room : stage < n
  pub from : sum (take stage counts) ≤ at
  pub to : at < sum (take (suc stage) counts)
  pub word : get_or words at empty ≡ position / 32
  pub low : 1 ≤ position
  pub high : position < width K
  pub cell : cell_pin (get_or plan (stage * stage_size K + position) empty) ≡ q
  pub bit : get_or result (stage * stage_size K + position) 0 ≡ b
