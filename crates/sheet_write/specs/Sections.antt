-- What the writer puts, and where. Assumes nothing.
use Rattle.std.specs.Prelude.{◌≡◌, List, ◌++◌, ℕ, ◌+◌, ◌*◌, ◌^◌, ◌≤◌, length, drop}
use Rattle.rules.specs.Job.{bits_of, to_byte}
use Rattle.bits.specs.Putting.{Put}
use Rattle.sheet_form.specs.Forms.{sheet_two}
use Rattle.sheet_form.specs.Sheets.{cell_bits, cells_bits, stage_bits, stages_bits, sheet_bits}
use Rattle.sheet_form.specs.Calls.{Areas, stages_in, sheet_of}
use Rattle.sheet_write.specs.Fits.{stage_with}

-- the whole sheet, its number in front
unfoldable pub file_bits : (K n : ℕ) → Areas → List ℕ
file_bits K n a = to_byte (bits_of 8 2 ++ sheet_bits sheet_two (sheet_of K n a))

-- a cell is put, at any height and position
pub record CellPut (c : ℕ) (xs xs' : List ℕ) (at r : ℕ) : Type 0 where
  pub put : (K p : ℕ) → Put (cell_bits sheet_two K p c) xs xs' at r
  pub len : length xs' ≡ length xs
  pub near : r ≤ at + 20

-- cells are put from a bit on
pub record CellsTo (at : ℕ) (cells : List ℕ) : Type 0 where
  pub near : at + 20 * length cells ≤ 2 ^ 39

-- the cells from position 1 on are put
pub record CellsPut (cells xs xs' : List ℕ) (at r : ℕ) : Type 0 where
  pub put : (K : ℕ) → Put (cells_bits sheet_two K 1 (drop 1 cells)) xs xs' at r
  pub len : length xs' ≡ length xs
  pub near : r ≤ at + 20 * length cells

-- words are put from a bit on
pub record WordsTo (at : ℕ) (words : List ℕ) : Type 0 where
  pub near : at + 8 * length words ≤ 2 ^ 39

-- a stage is put from a bit on
pub record StageTo (at : ℕ) (cells words : List ℕ) : Type 0 where
  pub near : at ≤ 2 ^ 38
  pub few : length cells ≤ 16384
  pub short : length words ≤ 65535

-- a stage is put
pub record StagePut (cells words xs xs' : List ℕ) (at r : ℕ) : Type 0 where
  pub put : (K : ℕ) → Put (stage_bits sheet_two K (stage_with cells words)) xs xs' at r
  pub len : length xs' ≡ length xs
  pub near : r ≤ at + 2 ^ 20

-- all stages are put behind number, height and stage count
pub record StagesPut (K n : ℕ) (a : Areas) (xs xs' : List ℕ) (r : ℕ) : Type 0 where
  pub put : Put (stages_bits sheet_two K (stages_in K n a.plan a.words a.counts)) xs xs' 28 r
  pub near : r ≤ 2 ^ 37
