-- Tests and rows. Assumes nothing.
use mathlib.Core.Path.{◌≡◌, refl}
use mathlib.Core.Bool.{Bool, true, false, not}
use Prim.Native.Nat.{ℕ, zero, suc, ◌-◌, ◌*◌, ◌≤◌}
use native.Mathlib.Omega.{arith}
use lib.Dec.{eqb, ltb}
use lib.Pow.{pow_mono}
use borrow.Author.Tests.{ne_eqb, lt-ltb}
use Rattle.rules.specs.Cells.{row_at}

-- twice turned round is the same
pub not_not : (b : Bool) → not (not b) ≡ b
not_not true = refl
not_not false = refl

-- a number that is not 0 is above 0
pub not_zero : (x : ℕ) → not (eqb x 0) ≡ ltb 0 x
not_zero zero = refl
not_zero (suc x) = rw (ne_eqb (suc x) 0 (λ e. omega arith), lt-ltb 0 (suc x) (omega arith)) refl

-- the rows above level 0 end by 8,192
pub row_high : (K h : ℕ) → 1 ≤ h → h ≤ K → K ≤ 13 → 2 * row_at K h ≤ 8192
unfolding row_at
row_high K h l b k = omega (arith, pow_mono {i = K - h} {j = 12} (omega arith))
