use mathlib.Core.Path.{refl}
use native.Mathlib.Omega.{arith}
use Rattle.mend_plan.proofs.Laws.{reached_none, stage_inside, one_at, reached_more, reached_all}
use borrow.Author.Rules.{rules}
use Rattle.mend_plan.proofs.mend_all.Goals as goal

pub loop-init : goal.loop-init
loop-init c = (reached_none _ _ _ _ _ _ _ c.requires, refl, refl)

pub overflow_add-end : goal.overflow_add-end
overflow_add-end c = omega (arith, stage_inside _ _ _ _ _ _ _ c.requires _ _ _ _ c.loop.invariant.0 c.loop-test.true _ _ c.stage_size-size.ensures refl, c.loop.invariant.0.len)

pub offset_bounds-plan-at : goal.offset_bounds-plan-at
offset_bounds-plan-at c = omega (arith, stage_inside _ _ _ _ _ _ _ c.requires _ _ _ _ c.loop.invariant.0 c.loop-test.true _ _ c.stage_size-size.ensures refl, c.loop.invariant.0.len)

pub slice_bounds-mend_one-end : goal.slice_bounds-mend_one-end
slice_bounds-mend_one-end c = stage_inside _ _ _ _ _ _ _ c.requires _ _ _ _ c.loop.invariant.0 c.loop-test.true _ _ c.stage_size-size.ensures refl

pub mend_one-requires : goal.mend_one-requires
mend_one-requires c = one_at _ _ _ _ _ _ _ c.requires _ _ _ _ c.loop.invariant.0 c.loop-test.true _ _ c.stage_size-size.ensures refl _ _ c.loop.invariant.1 c.loop.invariant.2

pub loop-preserved : goal.loop-preserved
loop-preserved c = (reached_more _ _ _ _ _ _ _ c.requires _ _ _ _ c.loop.invariant.0 c.loop-test.true _ _ c.stage_size-size.ensures refl _ _ c.mend_one.ensures, search rules, search rules)

pub shape_of-plan : goal.shape_of-plan
shape_of-plan c = c.loop.invariant.0.len

pub shape_of-stop : goal.shape_of-stop
shape_of-stop c = c.loop.invariant.0.size

pub shape_of-levels : goal.shape_of-levels
shape_of-levels c = c.loop.invariant.1

pub shape_of-fixed : goal.shape_of-fixed
shape_of-fixed c = c.loop.invariant.2

pub returns : goal.returns
returns c = reached_all _ _ _ _ _ _ _ c.requires _ _ _ _ c.loop.invariant.0 c.loop-test.false
