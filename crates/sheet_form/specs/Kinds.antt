-- The number of each kind of sheet, and the kind of each number. Assumes nothing.
use Rattle.std.specs.Prelude.{ℕ, true, false, eqb}
use Rattle.sheet_form.specs.declared.SheetKind.{SheetKind}
use Rattle.sheet_form.specs.declared.SheetKind.TheVariants.{Pins, Cells}

abbrev pub number_for : SheetKind → ℕ
number_for Pins = 1
number_for Cells = 2

-- of any number: 1 is pins alone, and every other is read as 2 is
unfoldable pub kind_for : ℕ → SheetKind
kind_for number = elim (eqb number 1) [ true ↦ Pins | false ↦ Cells ]
