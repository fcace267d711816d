-- `merge::merge` meets its contract: what the checks refuse changes nothing, the rest is merged in the parts that count. Assumes nothing.
use native.Mathlib.Omega.{arith}
use Rattle.std.proofs.lemmas.Result.{err_from_is_err_and}
use Rattle.merge.proofs.Laws.Outcome.{checked, need_is, pins_few, records_few, indices_few, lengths_few, words_inside, counts_inside, work_inside, place_at, outcome_refused, outcome_merged}
use Rattle.merge.proofs.merge.Goals as goal

pub returns-in_err-merge_refusal : goal.returns-in_err-merge_refusal
returns-in_err-merge_refusal c = let p = err_from_is_err_and c.from_residual.result c.from_residual.ensures.1 in rw (p.1, p.2) (outcome_refused _ _ _ _ _ _ _ _ _ _ _ _ _ _ c.in_err-merge_refusal.ensures)

pub overflow_mul-own : goal.overflow_mul-own
overflow_mul-own c = let H = checked c.in_ok-merge_refusal.ensures in omega (arith, lengths_few H)

pub overflow_mul-own-2 : goal.overflow_mul-own-2
overflow_mul-own-2 c = let H = checked c.in_ok-merge_refusal.ensures in omega (arith, indices_few H)

pub overflow_add-own : goal.overflow_add-own
overflow_add-own c = let H = checked c.in_ok-merge_refusal.ensures in omega (arith, indices_few H, lengths_few H)

pub overflow_mul-need : goal.overflow_mul-need
overflow_mul-need c = let H = checked c.in_ok-merge_refusal.ensures in omega (arith, pins_few H, c.pin_count.ensures)

pub overflow_mul-need-2 : goal.overflow_mul-need-2
overflow_mul-need-2 c = let H = checked c.in_ok-merge_refusal.ensures in omega (arith, records_few H)

pub overflow_add-need : goal.overflow_add-need
overflow_add-need c = let H = checked c.in_ok-merge_refusal.ensures in omega (arith, pins_few H, records_few H, indices_few H, lengths_few H, c.pin_count.ensures)

pub overflow_add-need-2 : goal.overflow_add-need-2
overflow_add-need-2 c = let H = checked c.in_ok-merge_refusal.ensures in omega (arith, pins_few H, records_few H, indices_few H, lengths_few H, c.pin_count.ensures)

pub overflow_add-need-3 : goal.overflow_add-need-3
overflow_add-need-3 c = let H = checked c.in_ok-merge_refusal.ensures in omega (arith, pins_few H, records_few H, indices_few H, lengths_few H, c.pin_count.ensures)

pub slice_bounds-place-end : goal.slice_bounds-place-end
slice_bounds-place-end c = let H = checked c.in_ok-merge_refusal.ensures in words_inside H c.word_limit-limit.ensures c.rooms-rooms.ensures (need_is _ _ _ _ _ _ c.pin_count.ensures)

pub slice_bounds-place-end-2 : goal.slice_bounds-place-end-2
slice_bounds-place-end-2 c = let H = checked c.in_ok-merge_refusal.ensures in counts_inside H c.word_limit-limit.ensures c.rooms-rooms.ensures (need_is _ _ _ _ _ _ c.pin_count.ensures)

pub slice_bounds-place-end-3 : goal.slice_bounds-place-end-3
slice_bounds-place-end-3 c = let H = checked c.in_ok-merge_refusal.ensures in work_inside H c.word_limit-limit.ensures c.rooms-rooms.ensures (need_is _ _ _ _ _ _ c.pin_count.ensures)

pub place-requires : goal.place-requires
place-requires c = let H = checked c.in_ok-merge_refusal.ensures in place_at H c.word_limit-limit.ensures c.rooms-rooms.ensures (need_is _ _ _ _ _ _ c.pin_count.ensures)

pub returns : goal.returns
returns c = let H = checked c.in_ok-merge_refusal.ensures in outcome_merged H c.word_limit-limit.ensures c.rooms-rooms.ensures (need_is _ _ _ _ _ _ c.pin_count.ensures) c.place.ensures
