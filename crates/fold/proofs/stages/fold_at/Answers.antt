-- `fold::stages::fold_at` meets its contract: the stage, the one before and the part for its bits are lent. Assumes nothing.
use mathlib.Core.Path.{refl}
use native.Mathlib.Omega.{arith}
use Rattle.fold.proofs.Laws.Stages.{size_there, next_at, stepped}
use Rattle.fold.proofs.stages.fold_at.Goals as goal

pub overflow_sub-last : goal.overflow_sub-last
overflow_sub-last c = omega (arith, c.requires.before, size_there _ _ c.requires.passed.height c.stage_size-size.ensures)

pub overflow_add-end : goal.overflow_add-end
overflow_add-end c = omega (arith, c.requires.here, size_there _ _ c.requires.passed.height c.stage_size-size.ensures)

pub slice_bounds-fold_next-end-2 : goal.slice_bounds-fold_next-end-2
slice_bounds-fold_next-end-2 c = omega (arith, c.requires.here, size_there _ _ c.requires.passed.height c.stage_size-size.ensures)

pub slice_bounds-fold_next-end-3 : goal.slice_bounds-fold_next-end-3
slice_bounds-fold_next-end-3 c = omega (arith, c.requires.here, c.requires.passed.room, size_there _ _ c.requires.passed.height c.stage_size-size.ensures)

pub fold_next-requires : goal.fold_next-requires
fold_next-requires c = next_at _ _ _ c.requires.passed _ _ c.requires _ _ _ (size_there _ _ c.requires.passed.height c.stage_size-size.ensures) refl refl

pub returns : goal.returns
returns c = stepped _ _ _ _ _ _ _ _ _ _ (size_there _ _ c.requires.passed.height c.stage_size-size.ensures) refl c.fold_next.ensures
