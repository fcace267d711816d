use native.Mathlib.Omega.{arith}
use Rattle.sheet_write.proofs.Laws.Fits.{count_there}
use Rattle.sheet_write.proofs.Laws.Sections.{stages_none, stages_done, stands, part_there, stage_asks, stages_more}
use Rattle.sheet_write.proofs.sections.put_stages.Goals as goal

pub loop-i-init : goal.loop-i-init
loop-i-init c = stages_none c.requires

pub bounds-counts-i : goal.bounds-counts-i
bounds-counts-i c = count_there (stands c.requires) c.loop-i.invariant.places c.loop-i-test.true

pub overflow_mul-i : goal.overflow_mul-i
overflow_mul-i c = omega (arith, (part_there c.requires c.loop-i.invariant c.loop-i-test.true _ c.stage_size-size.ensures _ c.wide-count.ensures).0)

pub overflow_mul-i-in-loop-i : goal.overflow_mul-i-in-loop-i
overflow_mul-i-in-loop-i c = omega (arith, (part_there c.requires c.loop-i.invariant c.loop-i-test.true _ c.stage_size-size.ensures _ c.wide-count.ensures).0)

pub overflow_add-i : goal.overflow_add-i
overflow_add-i c = omega (arith, (part_there c.requires c.loop-i.invariant c.loop-i-test.true _ c.stage_size-size.ensures _ c.wide-count.ensures).0)

pub offset_bounds-plan-i : goal.offset_bounds-plan-i
offset_bounds-plan-i c = omega (arith, (part_there c.requires c.loop-i.invariant c.loop-i-test.true _ c.stage_size-size.ensures _ c.wide-count.ensures).0)

pub slice_bounds-put_stage-end : goal.slice_bounds-put_stage-end
slice_bounds-put_stage-end c = omega (arith, (part_there c.requires c.loop-i.invariant c.loop-i-test.true _ c.stage_size-size.ensures _ c.wide-count.ensures).0)

pub overflow_add-from : goal.overflow_add-from
overflow_add-from c = omega (arith, (part_there c.requires c.loop-i.invariant c.loop-i-test.true _ c.stage_size-size.ensures _ c.wide-count.ensures).1)

pub slice_bounds-put_stage-end-in-loop-i : goal.slice_bounds-put_stage-end-in-loop-i
slice_bounds-put_stage-end-in-loop-i c = omega (arith, (part_there c.requires c.loop-i.invariant c.loop-i-test.true _ c.stage_size-size.ensures _ c.wide-count.ensures).1)

pub put_stage-at-requires : goal.put_stage-at-requires
put_stage-at-requires c = stage_asks c.requires c.loop-i.invariant c.loop-i-test.true _ c.stage_size-size.ensures _ c.wide-count.ensures

pub overflow_add-from-in-loop-i : goal.overflow_add-from-in-loop-i
overflow_add-from-in-loop-i c = omega (arith, (part_there c.requires c.loop-i.invariant c.loop-i-test.true _ c.stage_size-size.ensures _ c.wide-count.ensures).1)

pub loop-i-preserved : goal.loop-i-preserved
loop-i-preserved c = stages_more c.requires c.loop-i.invariant c.loop-i-test.true _ c.stage_size-size.ensures _ c.wide-count.ensures c.put_stage-at.ensures

pub returns : goal.returns
returns c = stages_done c.requires c.loop-i.invariant c.loop-i-test.false
