-- The work area of m pins: column f is the m numbers from f * m on; behind the 16 columns lies the tail. Assumes nothing.
use Rattle.std.specs.Prelude.{◌≡◌, Bool, true, false, ◌&&◌, ◌||◌, List, [], ◌∷◌, ◌++◌, ℕ, zero, suc, ◌+◌, ◌*◌, ◌<◌, ◌≤◌, eqb, length, get_or, set, take, drop}

-- g 0, g 1, .., m of them
abbrev pub tab : (ℕ → ℕ) → ℕ → List ℕ
tab g zero = []
tab g (suc m) = g zero ∷ tab (λ i. g (suc i)) m

-- field f of pin p
abbrev pub at : ℕ → ℕ → List ℕ → ℕ → ℕ
at f m w p = get_or w (f * m + p) 0

unfoldable pub col : ℕ → ℕ → List ℕ → List ℕ
col f m w = tab (at f m w) m

-- a list stored from a on
abbrev pub put_from : ℕ → List ℕ → List ℕ → List ℕ
put_from a w [] = w
put_from a w (x ∷ c) = set (put_from (suc a) w c) a x

-- w with the list c in column f, from pin 0 on
unfoldable pub put : ℕ → ℕ → List ℕ → List ℕ → List ℕ
put f m w c = put_from (f * m) w c

unfoldable pub tail : ℕ → List ℕ → List ℕ
tail m w = drop (16 * m) w

-- w with another tail
unfoldable pub put_tail : ℕ → List ℕ → List ℕ → List ℕ
put_tail m w t = take (16 * m) w ++ t

-- the columns and the tail's fixed numbers are there, and a pin is small
pub record Room (m : ℕ) (w : List ℕ) : Type 0 where
  pub small : m ≤ 65536
  pub room : 16 * m + 512 ≤ length w

-- is g one of the names; are all of some names: both compute at numerals
abbrev pub among : List ℕ → ℕ → Bool
among [] g = false
among (f ∷ fs) g = eqb g f || among fs g

abbrev pub within : List ℕ → List ℕ → Bool
within [] gs = true
within (f ∷ fs) gs = among gs f && within fs gs

-- only what fs names changed: columns by their fields, the tail by the name 16
pub record Frame (fs : List ℕ) (m : ℕ) (w w' : List ℕ) : Type 0 where
  pub len : length w' ≡ length w
  pub past : among fs 16 ≡ false → (j : ℕ) → 16 * m ≤ j → get_or w' j 0 ≡ get_or w j 0
  pub cell : (g : ℕ) → among fs g ≡ false → g < 16 → (p : ℕ) → p < m → get_or w' (g * m + p) 0 ≡ get_or w (g * m + p) 0
