-- `program::text_in` meets its contract: the front of the plan area has four rooms. Assumes nothing.
use native.Mathlib.Omega.{arith}
use Rattle.program.proofs.Laws.Text.{size_in, build_at}
use Rattle.program.proofs.text_in.Goals as goal

pub overflow_mul-size : goal.overflow_mul-size
overflow_mul-size c = omega (arith, size_in c.requires c.stage_size-size.result c.stage_size-size.ensures)

pub slice_bounds-built_text-end : goal.slice_bounds-built_text-end
slice_bounds-built_text-end c = omega (arith, size_in c.requires c.stage_size-size.result c.stage_size-size.ensures, c.requires.plan)

pub built_text-requires : goal.built_text-requires
built_text-requires c = build_at c.requires c.stage_size-size.result c.stage_size-size.ensures
