use native.Mathlib.Omega.{arith}
use Rattle.fold.proofs.Laws.Stages.{size_there, plan_one}
use Rattle.replay_tape.proofs.Laws.Plans.{one_at, first_length, standing_first, standing_step, standing_more, standing_done, standing_none}
use Rattle.replay_tape.proofs.plans.make_plan.Goals as goal

pub returns-then-plan-eq0 : goal.returns-then-plan-eq0
returns-then-plan-eq0 c = standing_none _ _ _ _ _ _ c.requires c.if-plan-eq0.true

pub slice_bounds-make_first-end : goal.slice_bounds-make_first-end
slice_bounds-make_first-end c = omega (arith, plan_one _ _ _ c.requires.passed c.if-plan-eq0.false, size_there _ _ c.requires.passed.height c.stage_size-size.ensures)

pub slice_bounds-make_first-end-2 : goal.slice_bounds-make_first-end-2
slice_bounds-make_first-end-2 c = omega (arith, plan_one _ _ _ c.requires.passed c.if-plan-eq0.false, c.requires.passed.room, size_there _ _ c.requires.passed.height c.stage_size-size.ensures)

pub make_first-count-requires : goal.make_first-count-requires
make_first-count-requires c = one_at _ _ _ _ _ _ c.requires c.if-plan-eq0.false _ (size_there _ _ c.requires.passed.height c.stage_size-size.ensures)

pub loop-at-init : goal.loop-at-init
loop-at-init c = standing_first _ _ _ _ _ _ c.requires c.if-plan-eq0.false _ (size_there _ _ c.requires.passed.height c.stage_size-size.ensures) _ _ _ _ c.make_first-count.ensures

pub make_at-count-requires : goal.make_at-count-requires
make_at-count-requires c = let s = size_there _ _ c.requires.passed.height c.stage_size-size.ensures in standing_step _ _ _ _ _ _ c.requires _ _ (first_length _ _ _ _ _ _ c.requires c.if-plan-eq0.false _ s _ _ _ _ c.make_first-count.ensures) c.make_first-count.ensures.tlen _ _ _ _ _ c.loop-at.invariant c.loop-at-test.true

pub nonzero_div-size : goal.nonzero_div-size
nonzero_div-size c = omega (arith, size_there _ _ c.requires.passed.height c.stage_size-size.ensures, c.requires.passed.double, c.requires.passed.low)

pub loop-at-smaller : goal.loop-at-smaller
loop-at-smaller c = omega (arith, size_there _ _ c.requires.passed.height c.stage_size-size.ensures, c.requires.passed.double, c.requires.passed.low)

pub loop-at-preserved : goal.loop-at-preserved
loop-at-preserved c = let s = size_there _ _ c.requires.passed.height c.stage_size-size.ensures in standing_more _ _ _ _ _ _ c.requires _ _ (first_length _ _ _ _ _ _ c.requires c.if-plan-eq0.false _ s _ _ _ _ c.make_first-count.ensures) c.make_first-count.ensures.tlen _ _ _ _ _ c.loop-at.invariant c.loop-at-test.true _ s _ _ _ _ c.make_at-count.ensures

pub returns-else-plan-eq0 : goal.returns-else-plan-eq0
returns-else-plan-eq0 c =
    let s = size_there _ _ c.requires.passed.height c.stage_size-size.ensures in
    let f = first_length _ _ _ _ _ _ c.requires c.if-plan-eq0.false _ s _ _ _ _ c.make_first-count.ensures in
    standing_done _ _ _ _ _ _ c.requires _ _ f c.make_first-count.ensures.tlen _ _ _ _ _ c.loop-at.invariant c.loop-at-test.false

pub returns-else-plan-eq0-2 : goal.returns-else-plan-eq0-2
returns-else-plan-eq0-2 c =
    let s = size_there _ _ c.requires.passed.height c.stage_size-size.ensures in
    let f = first_length _ _ _ _ _ _ c.requires c.if-plan-eq0.false _ s _ _ _ _ c.make_first-count.ensures in
    let t = c.make_first-count.ensures.tlen in
    standing_done _ _ _ _ _ _ c.requires _ _ f t _ _ _ _ _
    (standing_more _ _ _ _ _ _ c.requires _ _ f t _ _ _ _ _ c.loop-at.invariant c.loop-at-test.true _ s _ _ _ _ c.make_at-count.ensures) (omega arith)
