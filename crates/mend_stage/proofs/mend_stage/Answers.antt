use native.Mathlib.Omega.{arith}
use Rattle.mend_stage.proofs.Laws.{mended_none, cell_here, mended_more, mended_all}
use Rattle.mend_stage.proofs.mend_stage.Goals as goal

pub loop-p-init : goal.loop-p-init
loop-p-init c = mended_none _ _ _ _ _ c.requires _ (c.fill.ensures.after (λ y e. e))

pub offset_bounds-cells-p : goal.offset_bounds-cells-p
offset_bounds-cells-p c = omega (arith, c.loop-p.invariant.len, cell_here _ _ _ _ _ c.requires _ _ _ c.loop-p.invariant c.loop-p-test.true)

pub offset_bounds-fixed-p : goal.offset_bounds-fixed-p
offset_bounds-fixed-p c = omega (arith, c.loop-p.invariant.len, cell_here _ _ _ _ _ c.requires _ _ _ c.loop-p.invariant c.loop-p-test.true)

pub bounds-fixed-p : goal.bounds-fixed-p
bounds-fixed-p c = (cell_here _ _ _ _ _ c.requires _ _ _ c.loop-p.invariant c.loop-p-test.true).1

pub overflow_cast-p : goal.overflow_cast-p
overflow_cast-p c = omega (arith, c.loop-p.invariant.len, cell_here _ _ _ _ _ c.requires _ _ _ c.loop-p.invariant c.loop-p-test.true)

pub offset_bounds-cells-p-in-loop-p : goal.offset_bounds-cells-p-in-loop-p
offset_bounds-cells-p-in-loop-p c = omega (arith, c.loop-p.invariant.len, cell_here _ _ _ _ _ c.requires _ _ _ c.loop-p.invariant c.loop-p-test.true)

pub overflow_cast-p-in-loop-p : goal.overflow_cast-p-in-loop-p
overflow_cast-p-in-loop-p c = omega (arith, c.loop-p.invariant.len, cell_here _ _ _ _ _ c.requires _ _ _ c.loop-p.invariant c.loop-p-test.true)

pub loop-p-preserved : goal.loop-p-preserved
loop-p-preserved c = mended_more _ _ _ _ _ c.requires _ _ _ c.loop-p.invariant c.loop-p-test.true _ c.pin_for-pin.ensures _ c.deed_of-deed.ensures _ c.mended_cell.ensures _ c.fix.ensures

pub shape_of-cells : goal.shape_of-cells
shape_of-cells c = c.loop-p.invariant.len

pub shape_of-fixed : goal.shape_of-fixed
shape_of-fixed c = omega (arith, c.loop-p.invariant.room, c.requires.size, c.requires.room)

pub returns : goal.returns
returns c = mended_all _ _ _ _ _ c.requires _ _ _ c.loop-p.invariant c.loop-p-test.false
