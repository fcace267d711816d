-- `depth::depth` meets its contract: what the checks refuse changes nothing, the rest is measured in the part that counts. Assumes nothing.
use Rattle.depth.specs.Calls.{tell_depth, outcome}
use Rattle.refusals.proofs.Numbers.{handed_on}
use Rattle.depth.proofs.Laws.Outcome.{told_refused, sizes_few, work_inside, measure_at, told_measured}
use Rattle.depth.proofs.depth.Goals as goal

pub returns-in_err-checked : goal.returns-in_err-checked
unfolding tell_depth outcome
returns-in_err-checked c = let q = handed_on c.from_residual.result _ c.from_residual.ensures.1 in rw q (told_refused c.in_err-checked.ensures 0 _)

pub counted_size-need-requires : goal.counted_size-need-requires
counted_size-need-requires c = sizes_few c.in_ok-checked.ensures

pub slice_bounds-measure-end : goal.slice_bounds-measure-end
slice_bounds-measure-end c = work_inside c.in_ok-checked.ensures c.counted_size-need.ensures

pub measure-d-requires : goal.measure-d-requires
measure-d-requires c = measure_at c.in_ok-checked.ensures c.counted_size-need.ensures

pub returns : goal.returns
unfolding tell_depth outcome
returns c = let M = c.measure-d.ensures in rw M.depth (told_measured c.in_ok-checked.ensures c.counted_size-need.ensures 0 _ M.work c.measure-d.auto.work)
