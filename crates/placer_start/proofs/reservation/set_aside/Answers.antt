-- `placer_start::reservation::set_aside` meets its contract. Assumes nothing.
use Prim.Native.Nat.{ℕ, ◌+◌, ◌/◌}
use mathlib.Core.Path.{◌≡◌}
use native.Mathlib.Omega.{arith}
use Rattle.std.specs.Int.{div_ceil}
use Rattle.placer_start.proofs.Laws.Counts.{aside}
use Rattle.placer_start.proofs.reservation.set_aside.Goals as goal

rounded_up : (d n : ℕ) → n ≡ div_ceil d 32 → n ≡ (d + 31) / 32
rounded_up d n e = omega arith

pub returns : goal.returns
returns c = aside _ _ (omega (arith, rounded_up _ _ c.div_ceil.ensures))
