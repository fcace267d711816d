-- What the functions answer, for any numbers. Assumes nothing.
use Rattle.std.specs.Prelude.{ℕ, Option, Some, None, Bool, true, false, ◌&&◌, leb, ltb}
use Rattle.rules.specs.Cells.{is_height, row_at}
use Rattle.cells.specs.declared.Height.{Height}

unfoldable pub height_of : ℕ → Option Height
height_of K = elim (is_height K) [ true ↦ Some (record { 0 = K }) | false ↦ None ]

-- a number where there is one, else 0
unfoldable pub or_zero : Bool → ℕ → ℕ
or_zero true x = x
or_zero false x = 0

unfoldable pub has_level : ℕ → ℕ → Bool
has_level K h = is_height K && leb h K

unfoldable pub has_cell : ℕ → ℕ → ℕ → Bool
has_cell K h j = has_level K h && ltb j (row_at K h)
