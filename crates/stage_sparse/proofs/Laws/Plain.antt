-- Rows. Assumes nothing.
use mathlib.Core.Path.{◌≡◌}
use Prim.Native.Nat.{ℕ, ◌+◌, ◌-◌, ◌*◌, ◌^◌, ◌≤◌}
use native.Mathlib.Omega.{arith}
use lib.Pow.{pow_mono}
use Rattle.rules.specs.Cells.{row_at}
use Rattle.rules.proofs.Stage.Staged.{two_step}

-- a level's row ends within the stage
pub row_inside : (K h n : ℕ) → n ≡ 2 ^ (K + 1) → 2 * row_at K h ≤ n
unfolding row_at
row_inside K h n e = omega (arith, two_step K, pow_mono {i = K - h} {j = K} (omega arith))
