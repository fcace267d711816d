-- What is left of a lent area. Assumes nothing.
use Rattle.std.specs.Prelude.{ℕ, Option, Some, None, ◌-◌, true, false, leb}

-- what is left of an area when so many numbers are taken
unfoldable pub less : Option ℕ → ℕ → Option ℕ
less None need = None
less (Some n) need = elim (leb need n) [ true ↦ Some (n - need) | false ↦ None ]
