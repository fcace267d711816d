use native.Mathlib.Omega.{arith}
use Rattle.stage_tree.proofs.Counts.Pins.{above_zero}
use Rattle.stage_tree.proofs.Bits.Places.{placed_few, place_fill, place_low, placed_zero, level_read, pass_at, passed, split_at, parted, split_low}
use Rattle.stage_tree.proofs.Bits.Places.{split_pins, split_first, split_second, split_both}
use Rattle.stage_tree.proofs.+place_bit_split_gate.Goals as goal

pub place_bit-fill_cell-requires : goal.place_bit-fill_cell-requires
place_bit-fill_cell-requires t c = let s = c.requires in record { it = s.it; at = place_fill s.at }

pub place_bit-returns-then-h-eq0 : goal.place_bit-returns-then-h-eq0
place_bit-returns-then-h-eq0 t c = record { all = λ C A. placed_zero A (c.fill_cell.ensures.all C (place_fill A)) c.if-h-eq0.true }

pub place_bit-overflow_mul-w : goal.place_bit-overflow_mul-w
place_bit-overflow_mul-w t c = omega (arith, place_low c.requires.at (above_zero _ c.if-h-eq0.false))

pub place_bit-overflow_add-c : goal.place_bit-overflow_add-c
place_bit-overflow_add-c t c = omega (arith, place_low c.requires.at (above_zero _ c.if-h-eq0.false))

pub place_bit-place_bit-requires : goal.place_bit-place_bit-requires
place_bit-place_bit-requires t c =
    let s = c.requires in
    let pos = above_zero _ c.if-h-eq0.false in
    (omega (arith, pos), record { it = s.it; at = pass_at s.at (c.fill_cell.ensures.all s.it (place_fill s.at)) pos })

pub place_bit-overflow_add-result : goal.place_bit-overflow_add-result
place_bit-overflow_add-result t c =
    let s = c.requires in
    let M = c.fill_cell.ensures.all s.it (place_fill s.at) in
    omega (arith, placed_few (omega (arith, s.at.spot.high)) (c.place_bit.ensures.all s.it (pass_at s.at M (above_zero _ c.if-h-eq0.false))))

pub place_bit-returns-then-get-h : goal.place_bit-returns-then-get-h
place_bit-returns-then-get-h t c =
    record {
      all = λ C A.
          let M = c.fill_cell.ensures.all C (place_fill A) in
          let pos = above_zero _ c.if-h-eq0.false in
          passed A M pos (omega (arith, c.if-get-h.true, level_read A M _ c.get.ensures)) (c.place_bit.ensures.all C (pass_at A M pos));
    }

pub place_bit-split_gate-requires : goal.place_bit-split_gate-requires
place_bit-split_gate-requires t c =
    let s = c.requires in
    let M = c.fill_cell.ensures.all s.it (place_fill s.at) in
    (omega arith, record { it = s.it; at = split_at s.at M (above_zero _ c.if-h-eq0.false) (omega (arith, c.if-get-h.false, level_read s.at M _ c.get.ensures)) })

pub place_bit-overflow_add-result-2 : goal.place_bit-overflow_add-result-2
place_bit-overflow_add-result-2 t c =
    let s = c.requires in
    let M = c.fill_cell.ensures.all s.it (place_fill s.at) in
    let S = split_at s.at M (above_zero _ c.if-h-eq0.false) (omega (arith, c.if-get-h.false, level_read s.at M _ c.get.ensures)) in
    omega (arith, placed_few s.at.spot.high (c.split_gate.ensures.all s.it S))

pub place_bit-returns : goal.place_bit-returns
place_bit-returns t c =
    record {
      all = λ C A.
          let M = c.fill_cell.ensures.all C (place_fill A) in
          let S = split_at A M (above_zero _ c.if-h-eq0.false) (omega (arith, c.if-get-h.false, level_read A M _ c.get.ensures)) in
          parted A M (c.split_gate.ensures.all C S);
    }

pub split_gate-overflow_mul-low : goal.split_gate-overflow_mul-low
split_gate-overflow_mul-low t c = omega (arith, split_low c.requires.at)

pub split_gate-overflow_add-c : goal.split_gate-overflow_add-c
split_gate-overflow_add-c t c = omega (arith, split_low c.requires.at)

pub split_gate-place_bit-first-requires : goal.split_gate-place_bit-first-requires
split_gate-place_bit-first-requires t c =
    let s = c.requires in
    (omega (arith, s.at.above), record { it = s.it; at = split_first s.at (split_pins s.at _ _ (rw c.index-at.ensures at c.operand-a.ensures) (rw c.index-at.ensures at c.operand-b.ensures)) })

pub split_gate-overflow_add-c-2 : goal.split_gate-overflow_add-c-2
split_gate-overflow_add-c-2 t c = omega (arith, split_low c.requires.at)

pub split_gate-place_bit-second-requires : goal.split_gate-place_bit-second-requires
split_gate-place_bit-second-requires t c =
    let s = c.requires in
    let O = split_pins s.at _ _ (rw c.index-at.ensures at c.operand-a.ensures) (rw c.index-at.ensures at c.operand-b.ensures) in
    (omega (arith, s.at.above), record { it = s.it; at = split_second s.at O (c.place_bit-first.ensures.all s.it (split_first s.at O)) })

pub split_gate-overflow_add-result : goal.split_gate-overflow_add-result
split_gate-overflow_add-result t c =
    let s = c.requires in
    let O = split_pins s.at _ _ (rw c.index-at.ensures at c.operand-a.ensures) (rw c.index-at.ensures at c.operand-b.ensures) in
    let P = c.place_bit-first.ensures.all s.it (split_first s.at O) in
    omega (arith, placed_few (omega (arith, s.at.spot.high)) P, placed_few (omega (arith, s.at.spot.high)) (c.place_bit-second.ensures.all s.it (split_second s.at O P)))

pub split_gate-returns : goal.split_gate-returns
split_gate-returns t c =
    record {
      all = λ C A.
          let O = split_pins A _ _ (rw c.index-at.ensures at c.operand-a.ensures) (rw c.index-at.ensures at c.operand-b.ensures) in
          let P = c.place_bit-first.ensures.all C (split_first A O) in
          split_both A O P (c.place_bit-second.ensures.all C (split_second A O P));
    }
