-- `plan_check::stages::forget` meets its contract. Assumes nothing.
use native.Mathlib.Omega.{arith}
use Rattle.plan_check.proofs.Laws.Loads.{size_is, width_is, forgets_none, forgets}
use Rattle.plan_check.proofs.stages.forget.Goals as goal

pub returns-then-at-eq0 : goal.returns-then-at-eq0
returns-then-at-eq0 c = forgets_none _ _ _ _ c.requires c.if-at-eq0.true

pub overflow_sub-last : goal.overflow_sub-last
overflow_sub-last c = omega (arith, c.requires.whole c.if-at-eq0.false, size_is c.requires.tall c.stage_size.ensures)

pub overflow_add-a : goal.overflow_add-a
overflow_add-a c = omega (arith, c.requires.here, size_is c.requires.tall c.stage_size.ensures, c.requires.tall.low, c.requires.tall.double)

pub overflow_add-e : goal.overflow_add-e
overflow_add-e c = omega (arith, c.requires.here, size_is c.requires.tall c.stage_size.ensures, width_is c.requires.tall c.width.ensures, c.requires.tall.double)

pub offset_bounds-plan-a : goal.offset_bounds-plan-a
offset_bounds-plan-a c = omega (arith, c.requires.here, size_is c.requires.tall c.stage_size.ensures, c.requires.tall.low, c.requires.tall.double)

pub slice_bounds-mark_cells-count : goal.slice_bounds-mark_cells-count
slice_bounds-mark_cells-count c = omega (arith, width_is c.requires.tall c.width.ensures, c.requires.tall.low)

pub slice_bounds-mark_cells-start : goal.slice_bounds-mark_cells-start
slice_bounds-mark_cells-start c = omega (arith, width_is c.requires.tall c.width.ensures, c.requires.tall.low)

pub slice_bounds-mark_cells-end : goal.slice_bounds-mark_cells-end
slice_bounds-mark_cells-end c = omega (arith, c.requires.here, c.requires.whole c.if-at-eq0.false, size_is c.requires.tall c.stage_size.ensures, width_is c.requires.tall c.width.ensures, c.requires.tall.double)

pub returns : goal.returns
returns c = forgets _ _ _ _ c.requires c.if-at-eq0.false _ _ c.stage_size.ensures c.width.ensures _ c.mark_cells.ensures
