-- A column as a list: its entries, and a store to it or to another. Laws ask for f * m + m ≤ length w: with f a numeral `omega`
-- finds it from the room. Assumes nothing.
use mathlib.Core.Path.{◌≡◌, refl, sym, ap, ◌∙◌}
use mathlib.Core.List.{List}
use Prim.Native.Nat.{ℕ, zero, suc, ◌+◌, ◌*◌, ◌/◌, ◌<◌, ◌≤◌}
use native.Mathlib.Omega.{arith}
use native.Mathlib.Nat.{not-suc-le-zero, le_of_suc-le-suc, suc-mul, mul-le-mul_right}
use native.Mathlib.Decide.{ℕ_discrete}
use lib.Arith.{digits_div}
use lib.ListN.{length, get_or, set, length-set}
use lib.Seq.{ext_get_or, get_or-set_same, get_or-set_other}
use Rattle.columns.specs.Area.{tab, at, col}

-- the two facts that are not linear; with f and g numerals `omega` finds both
pub apart : (f g m p q : ℕ) → p < m → q < m → f * m + p ≡ g * m + q → f ≡ g
apart f g m p q hp hq e = sym (digits_div f hp) ∙ ap (λ (x : ℕ). x / m) e ∙ digits_div g hq

-- a column ends at or before the end of all sixteen
pub inside : (f m : ℕ) → f < 16 → f * m + m ≤ 16 * m
inside f m h = rw (suc-mul f m) at (mul-le-mul_right m h)

length_tab : (g : ℕ → ℕ) (m : ℕ) → length (tab g m) ≡ m
length_tab g zero = refl
length_tab g (suc m) = ap suc (length_tab (λ i. g (suc i)) m)

get_or_tab : (g : ℕ → ℕ) (m i : ℕ) → i < m → get_or (tab g m) i 0 ≡ g i
get_or_tab g zero i h = absurd (not-suc-le-zero h)
get_or_tab g (suc m) zero h = refl
get_or_tab g (suc m) (suc i) h = get_or_tab (λ j. g (suc j)) m i (le_of_suc-le-suc h)

-- a column has one number for each pin
pub length_col : (f m : ℕ) (w : List ℕ) → length (col f m w) ≡ m
unfolding col
length_col f m w = length_tab (at f m w) m

-- entry p of a column is the field of pin p
pub get_or_col : (f m : ℕ) (w : List ℕ) (p : ℕ) → p < m → get_or (col f m w) p 0 ≡ get_or w (f * m + p) 0
unfolding col
get_or_col f m w p h = get_or_tab (at f m w) m p h

-- a column is a list that has its entries
pub col_is : (f m : ℕ) (w c : List ℕ) → length c ≡ m → ((p : ℕ) → p < m → get_or w (f * m + p) 0 ≡ get_or c p 0) → col f m w ≡ c
col_is f m w c e h = ext_get_or 0 _ _ (length_col f m w ∙ sym e) (λ i hi. cell i (rw length_col at hi))
  where
    cell : (i : ℕ) → i < m → get_or (col f m w) i 0 ≡ get_or c i 0
    cell i k = get_or_col f m w i k ∙ h i k

-- areas that agree on a column's cells have the same column
pub same_col : (f m : ℕ) (v w : List ℕ) → ((p : ℕ) → p < m → get_or v (f * m + p) 0 ≡ get_or w (f * m + p) 0) → col f m v ≡ col f m w
same_col f m v w h = col_is f m v (col f m w) (length_col f m w) (λ p k. h p k ∙ sym (get_or_col f m w p k))

-- a store to field f of pin p: a store to the column at p
pub col_set : (f m : ℕ) (w : List ℕ) (p v : ℕ) → p < m → f * m + m ≤ length w → col f m (set w (f * m + p) v) ≡ set (col f m w) p v
col_set f m w p v hp hw = col_is f m _ _ (simp (length-set, length_col)) (λ i h. cell i h (ℕ_discrete i p))
  where
    cell : (i : ℕ) → i < m → Dec (i ≡ p) → get_or (set w (f * m + p) v) (f * m + i) 0 ≡ get_or (set (col f m w) p v) i 0
    cell i h (yes e) = rw (e, get_or-set_same w (f * m + p) v 0 (omega arith), get_or-set_same (col f m w) p v 0 (omega (arith, length_col f m w)))
    cell i h (no ne) = rw (get_or-set_other w (f * m + p) (f * m + i) v 0 (λ e. ne (omega arith)), get_or-set_other (col f m w) p i v 0 ne, get_or_col f m w i h)

-- and to no other column
pub col_set_other : (f g m : ℕ) (w : List ℕ) (p v : ℕ) → p < m → (g ≡ f → ⊥) → col g m (set w (f * m + p) v) ≡ col g m w
col_set_other f g m w p v hp ne = same_col g m _ w (λ i h. get_or-set_other w (f * m + p) (g * m + i) v 0 (λ e. ne (apart g f m i p h hp e)))

-- the same at one cell
pub at_set : (f m : ℕ) (w : List ℕ) (p v : ℕ) → p < m → f * m + m ≤ length w → get_or (set w (f * m + p) v) (f * m + p) 0 ≡ v
at_set f m w p v hp hw = get_or-set_same w (f * m + p) v 0 (omega arith)

-- a store at one pin leaves the column's other pins
pub at_set_past : (f m : ℕ) (w : List ℕ) (p q v : ℕ) → (q ≡ p → ⊥) → get_or (set w (f * m + p) v) (f * m + q) 0 ≡ get_or w (f * m + q) 0
at_set_past f m w p q v ne = get_or-set_other w (f * m + p) (f * m + q) v 0 (λ e. ne (omega arith))

-- a store to one column leaves the others
pub at_set_other : (f g m : ℕ) (w : List ℕ) (p q v : ℕ) → p < m → q < m → (g ≡ f → ⊥) → get_or (set w (f * m + p) v) (g * m + q) 0 ≡ get_or w (g * m + q) 0
at_set_other f g m w p q v hp hq ne = get_or-set_other w (f * m + p) (g * m + q) v 0 (λ e. ne (apart g f m q p hq hp e))
