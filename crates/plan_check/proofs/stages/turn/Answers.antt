-- `plan_check::stages::turn` meets its contract. Assumes nothing.
use native.Mathlib.Omega.{arith}
use Rattle.plan_check.proofs.Laws.Loads.{width_is, turned}
use Rattle.plan_check.proofs.stages.turn.Goals as goal

pub overflow_add-a : goal.overflow_add-a
overflow_add-a c = omega (arith, c.requires.here, c.requires.tall.low, c.requires.tall.double)

pub overflow_add-e : goal.overflow_add-e
overflow_add-e c = omega (arith, c.requires.here, width_is c.requires.tall c.width.ensures, c.requires.tall.double)

pub offset_bounds-plan-a : goal.offset_bounds-plan-a
offset_bounds-plan-a c = omega (arith, c.requires.here, c.requires.tall.low, c.requires.tall.double)

pub slice_bounds-mark_cells-count : goal.slice_bounds-mark_cells-count
slice_bounds-mark_cells-count c = omega (arith, width_is c.requires.tall c.width.ensures, c.requires.tall.low)

pub slice_bounds-mark_cells-start : goal.slice_bounds-mark_cells-start
slice_bounds-mark_cells-start c = omega (arith, width_is c.requires.tall c.width.ensures, c.requires.tall.low)

pub slice_bounds-mark_cells-end : goal.slice_bounds-mark_cells-end
slice_bounds-mark_cells-end c = omega (arith, c.requires.here, width_is c.requires.tall c.width.ensures, c.requires.tall.double)

pub returns : goal.returns
returns c = turned _ _ _ _ c.requires _ c.forget.ensures _ c.width.ensures _ c.mark_cells.ensures
