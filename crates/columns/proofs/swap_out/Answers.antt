-- `columns::swap_out` meets its contract: three stores are the swap with the last. Assumes nothing.
use mathlib.Core.Path.{ap}
use Prim.Native.Nat.{ℕ, ◌-◌}
use native.Mathlib.Omega.{arith}
use Rattle.columns.proofs.Lists.Places.{swap_some, swap_pin, swap_low, swap_last, out_place, out_done}
use Rattle.columns.proofs.swap_out.Goals as goal

pub overflow_sub-n : goal.overflow_sub-n
overflow_sub-n c = let a = c.requires in omega (arith, swap_some a.now _ a.waits)

pub get-place-requires : goal.get-place-requires
get-place-requires c = let a = c.requires in omega (arith, swap_pin a.now _ a.waits)

pub overflow_sub-place : goal.overflow_sub-place
overflow_sub-place c = let a = c.requires in omega (arith, swap_low a.now _ a.waits)

pub push-requires : goal.push-requires
push-requires c = let a = c.requires in omega (arith, out_place a, swap_last a.now _ a.waits, swap_pin a.now _ a.waits)

pub set_field-requires : goal.set_field-requires
set_field-requires c = let a = c.requires in omega (arith, out_place a, swap_last a.now _ a.waits)

pub set_field-requires-2 : goal.set_field-requires-2
set_field-requires-2 c = let a = c.requires in omega (arith, swap_pin a.now _ a.waits)

pub overflow_sub-result : goal.overflow_sub-result
overflow_sub-result c = let a = c.requires in omega (arith, swap_some a.now _ a.waits)

pub returns : goal.returns
returns c =
    let d = c in
    out_done d.requires _ _ d.pin_at-last.ensures (ap (λ (x : ℕ). x - 1) d.get-place.ensures) _ _ _ d.push.ensures c.set_field.ensures c.set_field-2.ensures
