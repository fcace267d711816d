use native.Mathlib.Omega.{arith}
use Rattle.sheet_write.proofs.Laws.Fits.{fits_none, fits_done, stage_asks, part_there, fits_lost, fits_more, count_there, stands}
use Rattle.sheet_write.proofs.fits.stages_end.Goals as goal

pub loop-i-init : goal.loop-i-init
loop-i-init c = fits_none c.requires

pub bounds-counts-i : goal.bounds-counts-i
bounds-counts-i c = count_there (stands c.requires) c.loop-i.invariant.places c.loop-i-test.true

pub overflow_mul-i : goal.overflow_mul-i
overflow_mul-i c = omega (arith, (part_there c.requires c.loop-i.invariant c.loop-i-test.true _ c.stage_size-size.ensures _ c.wide-count.ensures).0)

pub overflow_mul-i-in-loop-i : goal.overflow_mul-i-in-loop-i
overflow_mul-i-in-loop-i c = omega (arith, (part_there c.requires c.loop-i.invariant c.loop-i-test.true _ c.stage_size-size.ensures _ c.wide-count.ensures).0)

pub overflow_add-i : goal.overflow_add-i
overflow_add-i c = omega (arith, (part_there c.requires c.loop-i.invariant c.loop-i-test.true _ c.stage_size-size.ensures _ c.wide-count.ensures).0)

pub offset_bounds-plan-i : goal.offset_bounds-plan-i
offset_bounds-plan-i c = omega (arith, (part_there c.requires c.loop-i.invariant c.loop-i-test.true _ c.stage_size-size.ensures _ c.wide-count.ensures).0)

pub slice_bounds-stage_end-end : goal.slice_bounds-stage_end-end
slice_bounds-stage_end-end c = omega (arith, (part_there c.requires c.loop-i.invariant c.loop-i-test.true _ c.stage_size-size.ensures _ c.wide-count.ensures).0)

pub overflow_add-from : goal.overflow_add-from
overflow_add-from c = omega (arith, (part_there c.requires c.loop-i.invariant c.loop-i-test.true _ c.stage_size-size.ensures _ c.wide-count.ensures).1)

pub slice_bounds-stage_end-end-in-loop-i : goal.slice_bounds-stage_end-end-in-loop-i
slice_bounds-stage_end-end-in-loop-i c = omega (arith, (part_there c.requires c.loop-i.invariant c.loop-i-test.true _ c.stage_size-size.ensures _ c.wide-count.ensures).1)

pub stage_end-requires : goal.stage_end-requires
stage_end-requires c = stage_asks c.requires c.loop-i.invariant c.loop-i-test.true _ c.stage_size-size.ensures _ c.wide-count.ensures

pub returns-in_err-at : goal.returns-in_err-at
returns-in_err-at c = rw c.from_residual.ensures (fits_lost c.requires c.loop-i.invariant c.loop-i-test.true _ c.stage_size-size.ensures _ c.wide-count.ensures c.in_err-at.ensures)

pub overflow_add-from-in-loop-i : goal.overflow_add-from-in-loop-i
overflow_add-from-in-loop-i c = omega (arith, (part_there c.requires c.loop-i.invariant c.loop-i-test.true _ c.stage_size-size.ensures _ c.wide-count.ensures).1)

pub loop-i-preserved : goal.loop-i-preserved
loop-i-preserved c = fits_more c.requires c.loop-i.invariant c.loop-i-test.true _ c.stage_size-size.ensures _ c.wide-count.ensures _ c.in_ok-at.ensures

pub returns : goal.returns
returns c = fits_done c.requires c.loop-i.invariant c.loop-i-test.false
