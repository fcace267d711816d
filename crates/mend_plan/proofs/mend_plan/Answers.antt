-- `mend_plan::mend_plan` meets its contract. Assumes nothing.
use mathlib.Core.Path.{refl}
use Rattle.mend_plan.proofs.Laws.{fixed_inside, all_at, plan_says}
use Rattle.mend_plan.proofs.mend_plan.Goals as goal

pub slice_bounds-fixed-end : goal.slice_bounds-fixed-end
slice_bounds-fixed-end c = fixed_inside _ _ _ _ _ c.requires _ _ _ _ refl c.mark_cells.ensures refl refl _ c.stage_size-size.ensures

pub mend_all-requires : goal.mend_all-requires
mend_all-requires c = all_at _ _ _ _ _ c.requires _ _ _ _ refl c.mark_cells.ensures refl refl _ c.stage_size-size.ensures

pub returns : goal.returns
returns c = plan_says _ _ _ _ _ c.requires _ _ _ _ refl c.mark_cells.ensures refl refl _ c.stage_size-size.ensures _ c.mend_all.ensures
