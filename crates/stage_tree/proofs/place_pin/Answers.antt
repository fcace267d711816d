-- `stage_tree::place_pin` meets its contract: what `place_bit` reports is added to the sum. Assumes nothing.
use native.Mathlib.Omega.{arith}
use Rattle.stage_tree.proofs.Bits.Places.{placed_few}
use Rattle.stage_tree.proofs.Bits.Totals.{total_few, total_read, placed_total}
use Rattle.stage_tree.proofs.place_pin.Goals as goal

pub overflow_add-total : goal.overflow_add-total
overflow_add-total c =
    let s = c.requires in
    let B = c.place_bit-n.ensures.all s.it s.at.bit in
    omega (arith, c.tail_get-total.ensures, total_read s.at.bit.spot s.at.total B.kept, total_few s.at.bit.spot, placed_few s.at.bit.spot.high B)

pub overflow_cast-total : goal.overflow_cast-total
overflow_cast-total c =
    let s = c.requires in
    let B = c.place_bit-n.ensures.all s.it s.at.bit in
    omega (arith, c.tail_get-total.ensures, total_read s.at.bit.spot s.at.total B.kept, total_few s.at.bit.spot, placed_few s.at.bit.spot.high B)

pub returns : goal.returns
returns c = record { all = λ C A. placed_total A (c.place_bit-n.ensures.all C A.bit) _ c.tail_get-total.ensures c.tail_set.ensures }
