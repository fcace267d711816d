use native.Mathlib.Omega.{arith}
use Rattle.merge_layout.proofs.Laws.Gathers.{gathering_none, gathering_fits, gathering_end, gathering_more}
use Rattle.merge_layout.proofs.gather.Goals as goal

pub loop-i-init : goal.loop-i-init
loop-i-init c = gathering_none

pub overflow_add-start : goal.overflow_add-start
overflow_add-start c = let e = gathering_end c.requires c.loop-i.invariant c.loop-i-test.true c.wide-s.ensures c.start_of-start.ensures c.wide-size.ensures in omega (arith, c.requires.few)

pub overflow_add-at : goal.overflow_add-at
overflow_add-at c = let e = gathering_fits c.requires c.loop-i.invariant c.loop-i-test.true c.wide-s.ensures in omega (arith, c.wide-size.ensures, c.loop-i.invariant.size)

pub offset_bounds-to-at : goal.offset_bounds-to-at
offset_bounds-to-at c = let e = gathering_fits c.requires c.loop-i.invariant c.loop-i-test.true c.wide-s.ensures in omega (arith, c.wide-size.ensures, c.loop-i.invariant.size)

pub slice_bounds-copy-end : goal.slice_bounds-copy-end
slice_bounds-copy-end c = let e = gathering_fits c.requires c.loop-i.invariant c.loop-i-test.true c.wide-s.ensures in omega (arith, c.wide-size.ensures)

pub offset_bounds-indices-start : goal.offset_bounds-indices-start
offset_bounds-indices-start c = let e = gathering_end c.requires c.loop-i.invariant c.loop-i-test.true c.wide-s.ensures c.start_of-start.ensures c.wide-size.ensures in omega (arith, c.requires.few)

pub slice_bounds-copy-end-in-loop-i : goal.slice_bounds-copy-end-in-loop-i
slice_bounds-copy-end-in-loop-i c = let e = gathering_end c.requires c.loop-i.invariant c.loop-i-test.true c.wide-s.ensures c.start_of-start.ensures c.wide-size.ensures in omega arith

pub loop-i-preserved : goal.loop-i-preserved
loop-i-preserved c = gathering_more c.requires c.loop-i.invariant c.loop-i-test.true c.wide-s.ensures c.start_of-start.ensures c.wide-size.ensures c.copy.ensures
