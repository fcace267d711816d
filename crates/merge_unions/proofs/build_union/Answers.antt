-- `merge_unions::build_union` meets its contract: an attempt, and every area emptied. Assumes nothing.
use native.Mathlib.Omega.{arith}
use Rattle.merge_unions.proofs.Laws.Building.{built_part, built}
use Rattle.merge_unions.proofs.build_union.Goals as goal

pub overflow_mul-size : goal.overflow_mul-size
overflow_mul-size c = omega (arith, c.requires.union.idle.area.small)

pub overflow_add-size : goal.overflow_add-size
overflow_add-size c = omega (arith, c.requires.union.idle.area.small)

pub slice_bounds-empty_all-end : goal.slice_bounds-empty_all-end
slice_bounds-empty_all-end c = built_part c.requires c.attempt-built.ensures

pub returns : goal.returns
returns c = built c.requires c.attempt-built.ensures c.empty_all.ensures
