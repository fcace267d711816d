use native.Mathlib.Omega.{arith}
use Rattle.fold.proofs.Laws.Stages.{size_there, plan_one, one_at, first_back, standing_first, standing_more, standing_step, standing_none, standing_done}
use Rattle.fold.proofs.stages.fold_stages.Goals as goal

pub returns-then-plan-eq0 : goal.returns-then-plan-eq0
returns-then-plan-eq0 c = standing_none _ _ _ _ c.if-plan-eq0.true

pub slice_bounds-fold_first-end : goal.slice_bounds-fold_first-end
slice_bounds-fold_first-end c = omega (arith, plan_one _ _ _ c.requires.plan_at c.if-plan-eq0.false, size_there _ _ c.requires.plan_at.height c.stage_size-size.ensures)

pub slice_bounds-fold_first-end-2 : goal.slice_bounds-fold_first-end-2
slice_bounds-fold_first-end-2 c = omega (arith, plan_one _ _ _ c.requires.plan_at c.if-plan-eq0.false, c.requires.plan_at.room, size_there _ _ c.requires.plan_at.height c.stage_size-size.ensures)

pub fold_first-requires : goal.fold_first-requires
fold_first-requires c = one_at _ _ _ c.requires.plan_at _ c.requires.looks_len c.if-plan-eq0.false _ (size_there _ _ c.requires.plan_at.height c.stage_size-size.ensures)

pub loop-at-init : goal.loop-at-init
loop-at-init c = standing_first _ _ _ c.requires.plan_at _ _ _ _ c.if-plan-eq0.false _ (size_there _ _ c.requires.plan_at.height c.stage_size-size.ensures) c.fold_first.ensures c.requires.looks_len

pub fold_at-requires : goal.fold_at-requires
fold_at-requires c = standing_step _ _ _ c.requires.plan_at _ _ _ _ _ c.loop-at.invariant c.loop-at-test.true

pub nonzero_div-size : goal.nonzero_div-size
nonzero_div-size c = omega (arith, size_there _ _ c.requires.plan_at.height c.stage_size-size.ensures, c.requires.plan_at.double, c.requires.plan_at.low)

pub loop-at-smaller : goal.loop-at-smaller
loop-at-smaller c = omega (arith, size_there _ _ c.requires.plan_at.height c.stage_size-size.ensures, c.requires.plan_at.double, c.requires.plan_at.low)

pub loop-at-preserved : goal.loop-at-preserved
loop-at-preserved c = standing_more _ _ _ _ _ _ _ c.loop-at.invariant c.loop-at-test.true _ (size_there _ _ c.requires.plan_at.height c.stage_size-size.ensures) _ _ c.fold_at.ensures

pub returns-else-plan-eq0 : goal.returns-else-plan-eq0
returns-else-plan-eq0 c =
    let s = size_there _ _ c.requires.plan_at.height c.stage_size-size.ensures in
    standing_done _ _ _ _ _ (first_back _ _ _ c.requires.plan_at _ _ _ _ c.if-plan-eq0.false _ s c.fold_first.ensures) _ _ _ c.loop-at.invariant c.loop-at-test.false

pub returns-else-plan-eq0-2 : goal.returns-else-plan-eq0-2
returns-else-plan-eq0-2 c =
    let s = size_there _ _ c.requires.plan_at.height c.stage_size-size.ensures in
    standing_done _ _ _ _ _ (first_back _ _ _ c.requires.plan_at _ _ _ _ c.if-plan-eq0.false _ s c.fold_first.ensures) _ _ _
    (standing_more _ _ _ _ _ _ _ c.loop-at.invariant c.loop-at-test.true _ s _ _ c.fold_at.ensures) (omega arith)
