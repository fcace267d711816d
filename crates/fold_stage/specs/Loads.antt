-- What is loaded: by a cell of level 0, and by pin, a number a pin. Assumes nothing.
use Rattle.std.specs.Prelude.{ℕ, ◌+◌, ◌^◌, ◌≤◌, ◌<◌, ◌≡◌, Bool, true, false, not, List, eqb, length, get_or}
use Rattle.rules.specs.Lists.{Found, nothing, found}
use Rattle.rules.specs.Cells.{empty, filled}
use Rattle.rules.specs.Fold.{as_number, lowest}
use Rattle.rules.specs.Coded.{cell_pin}

-- the load that these numbers stand for; a pin past them loads 0
unfoldable pub held : List ℕ → ℕ → Bool
held l n = not (eqb (get_or l n 0) 0)

-- what stands at a found position, else d
unfoldable pub seen : Found → (ℕ → ℕ) → ℕ → ℕ
seen nothing f d = d
seen (found p) f d = f p

-- a cell of level 0: what its pin loads, and 0 if it is empty
unfoldable pub load_cell : (ℕ → Bool) → ℕ → Bool
load_cell load c = elim (filled c) [ true ↦ load (cell_pin c) | false ↦ false ]

-- level 0 is loaded
pub record Loads (K : ℕ) (cells : List ℕ) (load : ℕ → Bool) (bits bits' : List ℕ) : Type 0 where
  pub len : length bits' ≡ length bits
  pub row : (q : ℕ) → 2 ^ K ≤ q → q < 2 ^ (K + 1) → get_or bits' q 0 ≡ as_number (load_cell load (get_or cells q empty))

-- each pin that stands above level 0 has what f gives of its lowest position, the others what they had
pub record Spread (K : ℕ) (cells : List ℕ) (f : ℕ → ℕ) (l l' : List ℕ) : Type 0 where
  pub len : length l' ≡ length l
  pub each : (n : ℕ) → n < length l → get_or l' n 0 ≡ seen (lowest K cells n) f (get_or l n 0)
