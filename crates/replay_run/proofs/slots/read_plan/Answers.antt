use native.Mathlib.Omega.{arith}
use Rattle.replay_run.proofs.Laws.Slots.{plan_none, size_below, stage_fits_lem, count_below, plan_more, plan_done}
use Rattle.replay_run.proofs.slots.read_plan.Goals as goal

pub overflow_mul-at : goal.overflow_mul-at
overflow_mul-at c = omega (arith, c.requires.room)

pub loop-k-init : goal.loop-k-init
loop-k-init c = plan_none _ _ _ _ _ _ _ c.requires

pub overflow_sub-at : goal.overflow_sub-at
overflow_sub-at c = omega (arith, size_below _ _ _ _ _ _ _ c.requires _ _ _ _ c.loop-k.invariant c.loop-k-test.true)

pub offset_bounds-counts-k : goal.offset_bounds-counts-k
offset_bounds-counts-k c = omega (arith, c.loop-k.invariant.upto)

pub bounds-counts-k : goal.bounds-counts-k
bounds-counts-k c = omega (arith, c.loop-k.invariant.upto)

pub overflow_sub-stop : goal.overflow_sub-stop
overflow_sub-stop c = omega (arith, count_below _ _ _ _ _ _ _ c.requires _ _ _ _ c.loop-k.invariant c.loop-k-test.true _ c.wide.ensures)

pub slice_bounds-read_words-start : goal.slice_bounds-read_words-start
slice_bounds-read_words-start c = omega (arith, c.loop-k.invariant.inside)

pub slice_bounds-read_words-end : goal.slice_bounds-read_words-end
slice_bounds-read_words-end c = omega (arith, c.loop-k.invariant.inside)

pub slice_bounds-read_words-start-in-loop-k : goal.slice_bounds-read_words-start-in-loop-k
slice_bounds-read_words-start-in-loop-k c = omega (arith, c.loop-k.invariant.inside, c.requires.slotted)

pub slice_bounds-read_words-end-in-loop-k : goal.slice_bounds-read_words-end-in-loop-k
slice_bounds-read_words-end-in-loop-k c = omega (arith, c.loop-k.invariant.inside, c.requires.slotted)

pub slice_bounds-read_words-start-in-loop-k-2 : goal.slice_bounds-read_words-start-in-loop-k-2
slice_bounds-read_words-start-in-loop-k-2 c = omega (arith, c.loop-k.invariant.ahead)

pub slice_bounds-read_words-end-in-loop-k-2 : goal.slice_bounds-read_words-end-in-loop-k-2
slice_bounds-read_words-end-in-loop-k-2 c = omega (arith, c.loop-k.invariant.ahead)

pub read_words-requires : goal.read_words-requires
read_words-requires c = stage_fits_lem _ _ _ _ _ _ _ c.requires _ _ _ _ c.loop-k.invariant c.loop-k-test.true

pub loop-k-smaller : goal.loop-k-smaller
loop-k-smaller c = omega arith

pub loop-k-preserved : goal.loop-k-preserved
loop-k-preserved c = plan_more _ _ _ _ _ _ _ c.requires _ _ _ _ c.loop-k.invariant c.loop-k-test.true _ c.wide.ensures _ c.read_words.ensures

pub shape_of-reads : goal.shape_of-reads
shape_of-reads c = omega (arith, c.loop-k.invariant.slotted.len)

pub returns : goal.returns
returns c = plan_done _ _ _ _ _ _ _ c.requires _ _ _ _ c.loop-k.invariant c.loop-k-test.false
