-- One stage's cells, read into an area of its size. Assumes nothing.
use Rattle.std.specs.Prelude.{◌≡◌, Option, Some, None, ◌+◌, true, false, List, ◌∷◌, ℕ, ◌-◌, ◌*◌, ◌^◌, ◌<◌, ◌≤◌, eqb, length, get_or, drop}
use Rattle.rules.specs.Cells.{empty, is_height, stage_size, first_lower}
use Rattle.rules.specs.Graph.{Node}
use Rattle.rules.specs.Coded.{coded}
use Rattle.rules.specs.Job.{Read, cut, got, next}
use Rattle.sheet_plan.specs.declared.reading.Found.{Found}
use Rattle.bits.specs.Fields.{bits_in}
use Rattle.sheet_form.specs.Forms.{form}
use Rattle.sheet_form.specs.Sheets.{read_cells}
use Rattle.sheet_form.specs.Lifting.{stage_lifts}

-- the cells as they stand, behind position 0, which is empty
unfoldable pub plan_read : (number K : ℕ) → List ℕ → Read (List ℕ)
plan_read number K bs = next (read_cells (form number) K (stage_size K - 1) 1 bs) (λ xs ds. got (empty ∷ xs) ds)

-- those of sheet 1 coded
unfoldable pub turned : (number K : ℕ) → List Node → (pl ds : List ℕ) → Read (List ℕ)
turned number K g pl ds = elim (eqb number 1) [ false ↦ got pl ds | true ↦ elim (stage_lifts K g pl) [ true ↦ got (coded K g pl) ds | false ↦ cut ] ]

-- a stage's cells with their inversions
unfoldable pub plan_with : (number K : ℕ) → List Node → List ℕ → Read (List ℕ)
plan_with number K g bs = next (plan_read number K bs) (turned number K g)

-- the bit behind what was read, past the end where nothing was
abbrev pub end_of : (xs : List ℕ) → Option ℕ → ℕ
end_of xs None = 8 * length xs + 1
end_of xs (Some at) = at

abbrev pub at_of : (xs : List ℕ) → Option Found → ℕ
at_of xs None = 8 * length xs + 1
at_of xs (Some f) = f.at

-- and the cell
abbrev pub cell_of : Option Found → ℕ
cell_of None = empty
cell_of (Some f) = f.cell

-- a cell may be read at a bit
pub record CellAt (K at : ℕ) (xs : List ℕ) : Type 0 where
  pub height : is_height K ≡ true
  pub small : length xs ≤ 2 ^ 40
  pub inside : at ≤ 8 * length xs

-- a cell that was read; past the end: cut
pub record CellTook (read : List ℕ → Read ℕ) (xs : List ℕ) (at at' c : ℕ) : Type 0 where
  pub lost : 8 * length xs < at' → read (drop at (bits_in xs)) ≡ cut
  pub is : at' ≤ 8 * length xs → read (drop at (bits_in xs)) ≡ got c (drop at' (bits_in xs))
  pub on : at ≤ at'

-- an area of a stage's size
pub record PlanAt (K at : ℕ) (xs cells : List ℕ) : Type 0 where
  pub height : is_height K ≡ true
  pub small : length xs ≤ 2 ^ 40
  pub inside : at ≤ 8 * length xs
  pub size : length cells ≡ stage_size K
  pub some : 1 ≤ length cells

-- whose position 0 is empty
pub record CellsAt (K at : ℕ) (xs cells : List ℕ) : Type 0 where
  pub plan : PlanAt K at xs cells
  pub zeroth : get_or cells 0 0 ≡ empty

-- cells that were read; past the end: cut
pub record CellsTook (read : List ℕ → Read (List ℕ)) (xs : List ℕ) (at at' : ℕ) (cells cells' : List ℕ) : Type 0 where
  pub len : length cells' ≡ length cells
  pub lost : 8 * length xs < at' → read (drop at (bits_in xs)) ≡ cut
  pub is : at' ≤ 8 * length xs → read (drop at (bits_in xs)) ≡ got cells' (drop at' (bits_in xs))
  pub on : at ≤ at'

-- a stage of pins
pub record StageAt (K : ℕ) (cells : List ℕ) : Type 0 where
  pub height : is_height K ≡ true
  pub size : length cells ≡ stage_size K
  pub few : length cells ≤ 16384

-- a position of it, whose first lower cell, above level 0, is in it too
pub record LiftAt (K : ℕ) (cells : List ℕ) (p : ℕ) : Type 0 where
  pub height : is_height K ≡ true
  pub here : p < length cells
  pub first : p < 2 ^ K → first_lower p < length cells
