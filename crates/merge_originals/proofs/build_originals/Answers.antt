use native.Mathlib.Omega.{arith}
use Rattle.merge_originals.proofs.Laws.Building.{building_none, part_end, building_at, building_refused, building_more, building_done}
use Rattle.merge_originals.proofs.build_originals.Goals as goal

pub loop-s-init : goal.loop-s-init
loop-s-init c = building_none c.requires

pub overflow_add-next : goal.overflow_add-next
overflow_add-next c = omega (arith, part_end c.requires c.loop-s.invariant c.loop-s-test.true c.wide.ensures, c.requires.groups.few)

pub offset_bounds-indices-at : goal.offset_bounds-indices-at
offset_bounds-indices-at c = omega (arith, part_end c.requires c.loop-s.invariant c.loop-s-test.true c.wide.ensures, c.requires.groups.few)

pub slice_bounds-measure-end : goal.slice_bounds-measure-end
slice_bounds-measure-end c = part_end c.requires c.loop-s.invariant c.loop-s-test.true c.wide.ensures

pub measure-measured-requires : goal.measure-measured-requires
measure-measured-requires c = building_at c.requires c.loop-s.invariant c.loop-s-test.true c.wide.ensures

pub returns-in-Err : goal.returns-in-Err
returns-in-Err c = building_refused c.requires c.loop-s.invariant c.loop-s-test.true c.wide.ensures c.in-Err.ensures

pub loop-s-preserved : goal.loop-s-preserved
loop-s-preserved c = building_more c.requires c.loop-s.invariant c.loop-s-test.true c.wide.ensures c.in-Ok.ensures c.max-most.ensures

pub returns : goal.returns
returns c = building_done c.requires c.loop-s.invariant c.loop-s-test.false
