-- `plan_check_stage::ending::has_free` meets its contract. Assumes nothing.
use mathlib.Core.Path.{refl}
use native.Mathlib.Omega.{arith}
use Rattle.plan_check_stage.proofs.Laws.Ending.{level_one, free_row}
use Rattle.plan_check_stage.proofs.ending.has_free.Goals as goal

pub overflow_mul-to : goal.overflow_mul-to
overflow_mul-to c = let e = level_one _ _ c.requires _ c.level_one_size-from.ensures in omega (arith, c.requires.tall.half, c.requires.tall.high)

pub offset_bounds-cells-from : goal.offset_bounds-cells-from
offset_bounds-cells-from c = let e = level_one _ _ c.requires _ c.level_one_size-from.ensures in omega (arith, c.requires.tall.half, c.requires.tall.high)

pub slice_bounds-has_empty-end : goal.slice_bounds-has_empty-end
slice_bounds-has_empty-end c = let e = level_one _ _ c.requires _ c.level_one_size-from.ensures in omega (arith, c.requires.tall.half, c.requires.tall.double, c.requires.size)

pub returns : goal.returns
returns c = free_row _ _ c.requires _ c.level_one_size-from.ensures _ refl _ c.has_empty.ensures
