-- `mend_plan::mend_one` meets its contract. Assumes nothing.
use native.Mathlib.Omega.{arith}
use Rattle.mend_plan.proofs.Laws.{levels_at, part_inside, one_says}
use Rattle.mend_plan.proofs.mend_one.Goals as goal

pub find_levels-requires : goal.find_levels-requires
find_levels-requires c = levels_at _ _ _ _ _ _ c.requires

pub slice_bounds-mark_cells-count : goal.slice_bounds-mark_cells-count
slice_bounds-mark_cells-count c = omega (arith, part_inside _ _ _ _ _ _ c.requires _ c.find_levels.ensures _ c.mend_stage.ensures _ c.width-end.ensures)

pub slice_bounds-mark_cells-start : goal.slice_bounds-mark_cells-start
slice_bounds-mark_cells-start c = omega (arith, part_inside _ _ _ _ _ _ c.requires _ c.find_levels.ensures _ c.mend_stage.ensures _ c.width-end.ensures)

pub slice_bounds-mark_cells-end : goal.slice_bounds-mark_cells-end
slice_bounds-mark_cells-end c = omega (arith, part_inside _ _ _ _ _ _ c.requires _ c.find_levels.ensures _ c.mend_stage.ensures _ c.width-end.ensures)

pub returns : goal.returns
returns c = one_says _ _ _ _ _ _ c.requires _ c.find_levels.ensures _ c.mend_stage.ensures _ c.width-end.ensures _ c.mark_cells.ensures
