-- Where the parts of a sheet end, and which stages one can hold. Assumes nothing.
use Rattle.std.specs.Prelude.{◌≡◌, Option, Some, None, MatchOption, Result, Ok, Err, Bool, true, false, List, ℕ, ◌+◌, ◌*◌, ◌^◌, ◌≤◌, length, drop}
use Rattle.rules.specs.Cells.{is_height, stage_size}
use Rattle.rules.specs.Build.{Stage}
use Rattle.rules.specs.Job.{no_file}
use Rattle.sheet_form.specs.Forms.{sheet_two}
use Rattle.sheet_form.specs.Sheets.{cell_bits, cells_bits, stage_bits, stages_bits, cell_fits, cells_fit, stage_fits, stages_fit}
use Rattle.sheet_form.specs.Calls.{Areas, areas, stages_in, stand, sheet_in, Written, written}
use Rattle.refusals.specs.declared.Refusal.{Refusal}
use Rattle.refusals.specs.Numbers.{number_of}

-- what is written, with the bytes at exit
abbrev pub wrote : Result ℕ Refusal → List ℕ → Written
wrote (Ok size) xs = written 0 size xs
wrote (Err why) xs = written (number_of why) 0 xs

-- where the bits of what fits end, from a bit on; they are not more than so many
abbrev pub Ends : (fits : Bool) (bits : List ℕ) (at most : ℕ) → Option ℕ → Type 0
Ends fits bits at most None = fits ≡ false
Ends fits bits at most (Some r) = (fits ≡ true) × (r ≡ at + length bits) × (r ≤ at + most)

-- a cell at a position
abbrev pub CellEnds : (K p c : ℕ) → Option ℕ → Type 0
CellEnds K p c r = Ends (cell_fits sheet_two K p c) (cell_bits sheet_two K p c) 0 20 r

-- cells that begin at a bit
pub record CellsAt (K at : ℕ) (cells : List ℕ) : Type 0 where
  pub height : is_height K ≡ true
  pub some : 1 ≤ at
  pub near : at + 20 * length cells ≤ 2 ^ 40

-- where they end
abbrev pub CellsEnd : (K : ℕ) (cells : List ℕ) (at : ℕ) → Option ℕ → Type 0
CellsEnd K cells at r = Ends (cells_fit sheet_two K 1 (drop 1 cells)) (cells_bits sheet_two K 1 (drop 1 cells)) at (20 * length cells) r

-- a stage's cells, all of them, that begin at a bit
pub record StageAt (K at : ℕ) (cells : List ℕ) : Type 0 where
  pub height : is_height K ≡ true
  pub size : length cells ≡ stage_size K
  pub few : length cells ≤ 16384
  pub first : 1 ≤ length cells
  pub some : 1 ≤ at
  pub near : at ≤ 2 ^ 39

-- a stage by its parts
abbrev pub stage_with : (cells words : List ℕ) → Stage
stage_with cells words = record { plan = cells; words = words }

-- no stage has more than 2^20 bits
abbrev pub StageEnds : (K : ℕ) (cells words : List ℕ) (at : ℕ) → Option ℕ → Type 0
StageEnds K cells words at r = Ends (stage_fits sheet_two K (stage_with cells words)) (stage_bits sheet_two K (stage_with cells words)) at (2 ^ 20) r

-- a height, and not too many stages
pub record Sized (K n : ℕ) : Type 0 where
  pub height : is_height K ≡ true
  pub few : n ≤ 65535

-- areas that hold so many stages
pub record StagesAt (K n : ℕ) (p w c : List ℕ) : Type 0 where
  pub height : is_height K ≡ true
  pub few : n ≤ 65535
  pub held : stand K n (areas p w c) ≡ true

-- where they end behind number, height and stage count
abbrev pub StagesEnd : (K n : ℕ) (p w c : List ℕ) → Option ℕ → Type 0
StagesEnd K n p w c r = Ends (stages_fit sheet_two K (stages_in K n p w c)) (stages_bits sheet_two K (stages_in K n p w c)) 28 (2 ^ 36) r

-- areas whose stages a sheet can hold
pub record Fitting (K n : ℕ) (a : Areas) : Type 0 where
  pub height : is_height K ≡ true
  pub few : n ≤ 65535
  pub held : stand K n a ≡ true
  pub fits : stages_fit sheet_two K (stages_in K n a.plan a.words a.counts) ≡ true

-- a sheet's bits without padding
pub record Measures (K n : ℕ) (a : Areas) (r : ℕ) : Type 0 where
  pub fitting : Fitting K n a
  pub bits : r ≡ 28 + length (stages_bits sheet_two K (stages_in K n a.plan a.words a.counts))
  pub near : r ≤ 2 ^ 37

-- if there is a sheet
abbrev pub Measured : (K n : ℕ) → Areas → Option ℕ → Type 0
Measured K n a r = MatchOption r (sheet_in sheet_two K n a ≡ no_file) (Measures K n a)
