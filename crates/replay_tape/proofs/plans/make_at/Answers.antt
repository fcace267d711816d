-- `replay_tape::plans::make_at` meets its contract. Assumes nothing.
use mathlib.Core.Path.{refl}
use native.Mathlib.Omega.{arith}
use Rattle.fold.proofs.Laws.Stages.{size_there}
use Rattle.replay_tape.proofs.Laws.Plans.{step_in, step_out}
use Rattle.replay_tape.proofs.plans.make_at.Goals as goal

pub overflow_sub-last : goal.overflow_sub-last
overflow_sub-last c = omega (arith, c.requires.before, size_there _ _ c.requires.plans.passed.height c.stage_size-size.ensures)

pub overflow_add-end : goal.overflow_add-end
overflow_add-end c = omega (arith, c.requires.here, size_there _ _ c.requires.plans.passed.height c.stage_size-size.ensures)

pub slice_bounds-make_next-end-2 : goal.slice_bounds-make_next-end-2
slice_bounds-make_next-end-2 c = omega (arith, c.requires.here, size_there _ _ c.requires.plans.passed.height c.stage_size-size.ensures)

pub slice_bounds-make_next-end-3 : goal.slice_bounds-make_next-end-3
slice_bounds-make_next-end-3 c = omega (arith, c.requires.here, c.requires.plans.passed.room, size_there _ _ c.requires.plans.passed.height c.stage_size-size.ensures)

pub make_next-requires : goal.make_next-requires
make_next-requires c = step_in _ _ _ _ _ _ _ _ c.requires _ _ _ (size_there _ _ c.requires.plans.passed.height c.stage_size-size.ensures) refl refl

pub returns : goal.returns
returns c = step_out _ _ _ _ _ _ _ _ c.requires _ _ _ (size_there _ _ c.requires.plans.passed.height c.stage_size-size.ensures) refl refl _ _ _ _ c.make_next.ensures
