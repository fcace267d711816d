-- Marks by pin. Assumes nothing.
use Rattle.std.specs.Prelude.{ℕ, ◌<◌, ◌≡◌, Bool, true, false, not, List, eqb, length, get_or}
use Rattle.rules.specs.Lists.{mem}

-- a pin has a mark; one past the marks has none
unfoldable pub marked : List ℕ → ℕ → Bool
marked l n = not (eqb (get_or l n 0) 0)

-- what a pin gets, if it is one of those that get anything
unfoldable pub mark_or : Bool → ℕ → ℕ → ℕ
mark_or true v old = v
mark_or false v old = old

-- the pins of a list have v, the others what they had
pub record Marks (xs : List ℕ) (v : ℕ) (l l' : List ℕ) : Type 0 where
  pub len : length l' ≡ length l
  pub each : (n : ℕ) → n < length l → get_or l' n 0 ≡ mark_or (mem n xs) v (get_or l n 0)
