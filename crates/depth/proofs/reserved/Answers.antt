-- `depth::reserved` meets its contract: what the checks refuse changes nothing, the rest is counted in the part that counts. Assumes nothing.
use Rattle.depth.specs.Calls.{tell_aside, aside_outcome}
use Rattle.refusals.proofs.Numbers.{handed_on}
use Rattle.depth.proofs.Laws.Outcome.{told_refused, sizes_few, work_inside, measure_at, told_measured}
use Rattle.depth.proofs.reserved.Goals as goal

pub returns-in_err-checked : goal.returns-in_err-checked
unfolding tell_aside aside_outcome
returns-in_err-checked c = let q = handed_on c.from_residual.result _ c.from_residual.ensures.1 in rw q (told_refused c.in_err-checked.ensures _ _)

pub counted_size-need-requires : goal.counted_size-need-requires
counted_size-need-requires c = sizes_few c.in_ok-checked.ensures

pub slice_bounds-tally-end : goal.slice_bounds-tally-end
slice_bounds-tally-end c = work_inside c.in_ok-checked.ensures c.counted_size-need.ensures

pub tally-count-requires : goal.tally-count-requires
tally-count-requires c = measure_at c.in_ok-checked.ensures c.counted_size-need.ensures

pub returns : goal.returns
unfolding tell_aside aside_outcome
returns c = let M = c.tally-count.ensures in rw (← M.counts.memory, ← M.counts.double, c.set_aside-words.ensures.is _ M.counts) (told_measured c.in_ok-checked.ensures c.counted_size-need.ensures _ _ M.work c.tally-count.auto.work)
