-- Counting a pin once more and once less. Assumes nothing.
use mathlib.Core.Path.{refl}
use mathlib.Core.Logic.{◌≢◌}
use Prim.Native.Nat.{ℕ, zero, suc, ◌<◌}
use native.Mathlib.Omega.{arith}

-- a number other than 0 is above it
pub above_zero : (c : ℕ) → c ≢ 0 → 0 < c
above_zero zero n = absurd (n refl)
above_zero (suc c) n = omega arith
