-- What a sheet number says of one filled cell: its pin and, in sheet 2, what it does. Assumes nothing.
use Rattle.std.specs.Prelude.{ℕ, ◌+◌, ◌*◌, ◌/◌, ◌%◌, ◌^◌, Bool, true, false, not, ◌&&◌, ◌||◌, List, ◌++◌, ltb, eqb}
use Rattle.rules.specs.Cells.{width}
use Rattle.rules.specs.Job.{bits_of, Read, cut, got, next, field}
use Rattle.rules.specs.Fold.{as_number}
use Rattle.rules.specs.Coded.{cell_pin, ands, first_inversion, second_inversion}

-- what one sheet number says of a filled cell, given the height, the position and the cell
pub record Form : Type 0 where
  pub number : ℕ
  pub most : ℕ
  pub bits : (K p c : ℕ) → List ℕ
  pub read : (K p : ℕ) → List ℕ → Read ℕ
  pub fits : (K p c : ℕ) → Bool

-- the three bits of a cell behind its pin: AND, first inversion, second
unfoldable pub does : ℕ → ℕ
does c = 4 * as_number (ands c) + 2 * first_inversion c + second_inversion c

-- the cell of a pin and such bits
unfoldable pub cell_with : ℕ → ℕ → ℕ
cell_with n d = n + 65536 * (d / 4) + 131072 * (d / 2 % 2) + 262144 * (d % 2)

-- the numbers that are filled cells: a pin above 0, and inversions with an AND only
unfoldable pub is_cell : ℕ → Bool
is_cell c = ltb 0 (cell_pin c) && ltb c 524288 && (ltb c 65536 || ands c)

-- how many bits stand behind a pin: none in sheet 1, 3 in sheet 2
unfoldable pub behind_pin : ℕ → ℕ
behind_pin number = elim (eqb number 1) [ true ↦ 0 | false ↦ 3 ]

-- a cell whose bits behind the pin are so many, and no AND at level 0
unfoldable pub form_fits : ℕ → (K p c : ℕ) → Bool
form_fits number K p c = is_cell c && ltb (does c) (2 ^ behind_pin number) && (not (ands c) || ltb p (width K))

-- a pin of 16, and the bits behind it
unfoldable pub form_read : ℕ → (K p : ℕ) → List ℕ → Read ℕ
form_read number K p bs =
    next (field 16 bs) (λ n cs. next (field (behind_pin number) cs) (λ d ds. elim (form_fits number K p (cell_with n d)) [ true ↦ got (cell_with n d) ds | false ↦ cut ]))

-- the form of a sheet number
abbrev pub form : ℕ → Form
form number = record {
  number = number;
  most = 16 + behind_pin number;
  bits = λ K p c. bits_of 16 (cell_pin c) ++ bits_of (behind_pin number) (does c);
  read = λ K p bs. form_read number K p bs;
  fits = λ K p c. form_fits number K p c;
}

-- sheet 1: pins alone
abbrev pub sheet_one : Form
sheet_one = form 1

-- sheet 2: cells with their inversions
abbrev pub sheet_two : Form
sheet_two = form 2
