-- `placer::build` meets its contract: what the checks refuse changes nothing, the rest is built in the parts that count. Assumes nothing.
use Rattle.placer.proofs.Laws.Outcome.{checked}
use Rattle.placer.proofs.Laws.Outcome.{need_is, pins_few, records_few}
use native.Mathlib.Omega.{arith}
use Rattle.placer.proofs.Laws.Outcome.{outcome_refused, words_inside, counts_inside, work_inside, place_at, outcome_built}
use Rattle.placer.proofs.build.Goals as goal

pub returns-in-Err : goal.returns-in-Err
returns-in-Err c = rw c.from.ensures (outcome_refused _ _ _ _ _ _ _ _ _ _ c.in-Err.ensures)

pub overflow_mul-need : goal.overflow_mul-need
overflow_mul-need c = let H = checked c.in_default.ensures in omega (arith, pins_few H, c.pin_count.ensures)

pub overflow_add-need : goal.overflow_add-need
overflow_add-need c = let H = checked c.in_default.ensures in omega (arith, pins_few H, records_few H, c.pin_count.ensures)

pub overflow_add-need-2 : goal.overflow_add-need-2
overflow_add-need-2 c = let H = checked c.in_default.ensures in omega (arith, pins_few H, records_few H, c.pin_count.ensures)

pub slice_bounds-place-end : goal.slice_bounds-place-end
slice_bounds-place-end c = let H = checked c.in_default.ensures in words_inside H c.word_limit-limit.ensures c.rooms-rooms.ensures (need_is _ _ _ c.pin_count.ensures)

pub slice_bounds-place-end-2 : goal.slice_bounds-place-end-2
slice_bounds-place-end-2 c = let H = checked c.in_default.ensures in counts_inside H c.word_limit-limit.ensures c.rooms-rooms.ensures (need_is _ _ _ c.pin_count.ensures)

pub slice_bounds-place-end-3 : goal.slice_bounds-place-end-3
slice_bounds-place-end-3 c = let H = checked c.in_default.ensures in work_inside H c.word_limit-limit.ensures c.rooms-rooms.ensures (need_is _ _ _ c.pin_count.ensures)

pub place-requires : goal.place-requires
place-requires c = let H = checked c.in_default.ensures in place_at _ _ _ _ H c.word_limit-limit.ensures c.rooms-rooms.ensures (need_is _ _ _ c.pin_count.ensures)

pub returns : goal.returns
returns c = let H = checked c.in_default.ensures in outcome_built _ _ _ _ H c.word_limit-limit.ensures c.rooms-rooms.ensures (need_is _ _ _ c.pin_count.ensures) _ c.place.ensures c.place.auto.words c.place.auto.counts c.place.auto.work
