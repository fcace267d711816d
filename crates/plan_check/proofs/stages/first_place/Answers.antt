use Rattle.plan_check.proofs.Laws.Stages.{end_is, checking_none, checking_here, checking_stage, checking_turn, checking_wrong, checking_few, checking_there, checking_more, checking_done}
use mathlib.Core.Path.{refl, ◌∙◌, sym}
use native.Mathlib.Omega.{arith}
use Rattle.plan_check.proofs.Laws.Loads.{size_is}
use Rattle.std.proofs.lemmas.Result.{err_from_is_err_and}
use Rattle.plan_check.proofs.stages.first_place.Goals as goal

pub loop-k-init : goal.loop-k-init
loop-k-init c = (omega arith, checking_none _ _ _ _ _ _ _ _ _ _ c.requires)

pub offset_bounds-counts-k : goal.offset_bounds-counts-k
offset_bounds-counts-k c = omega (arith, c.requires.here.counted)

pub bounds-counts-k : goal.bounds-counts-k
bounds-counts-k c = omega (arith, c.requires.here.counted)

pub overflow_add-end : goal.overflow_add-end
overflow_add-end c = omega (arith, checking_here _ _ _ _ _ _ _ _ _ _ c.requires _ _ _ _ _ _ c.loop-k.invariant.1 c.loop-k-test.true, size_is c.requires.here.tall c.stage_size-size.ensures)

pub offset_bounds-plan-at : goal.offset_bounds-plan-at
offset_bounds-plan-at c = omega (arith, checking_here _ _ _ _ _ _ _ _ _ _ c.requires _ _ _ _ _ _ c.loop-k.invariant.1 c.loop-k-test.true)

pub slice_bounds-stage_step-end : goal.slice_bounds-stage_step-end
slice_bounds-stage_step-end c = omega (arith, checking_here _ _ _ _ _ _ _ _ _ _ c.requires _ _ _ _ _ _ c.loop-k.invariant.1 c.loop-k-test.true, size_is c.requires.here.tall c.stage_size-size.ensures)

pub offset_bounds-words-from : goal.offset_bounds-words-from
offset_bounds-words-from c = omega (arith, c.loop-k.invariant.1.there)

pub slice_bounds-stage_step-count-in-loop-k : goal.slice_bounds-stage_step-count-in-loop-k
slice_bounds-stage_step-count-in-loop-k c = c.loop-k.invariant.1.there

pub slice_bounds-stage_step-start-in-loop-k : goal.slice_bounds-stage_step-start-in-loop-k
slice_bounds-stage_step-start-in-loop-k c = c.loop-k.invariant.1.there

pub stage_step-requires : goal.stage_step-requires
stage_step-requires c = checking_stage _ _ _ _ _ _ _ _ _ _ c.requires _ _ _ _ _ _ c.loop-k.invariant.1 c.loop-k-test.true _ (end_is _ c.requires.here.tall c.stage_size-size.ensures)

pub shape_of-looks-in_err-stage_step : goal.shape_of-looks-in_err-stage_step
shape_of-looks-in_err-stage_step c = c.loop-k.invariant.1.held.size ∙ sym c.requires.held.size

pub shape_of-written-in_err-stage_step : goal.shape_of-written-in_err-stage_step
shape_of-written-in_err-stage_step c = c.in_err-stage_step.ensures.len ∙ c.loop-k.invariant.1.size ∙ sym c.requires.size

pub returns-in_err-stage_step : goal.returns-in_err-stage_step
returns-in_err-stage_step c =
    let p = err_from_is_err_and c.from_residual.result c.from_residual.ensures.1 in
    rw (p.1, p.2) (checking_wrong _ _ _ _ _ _ _ _ _ _ c.requires _ _ _ _ _ _ c.loop-k.invariant.1 c.loop-k-test.true _ c.wide-count.ensures _ (end_is _ c.requires.here.tall c.stage_size-size.ensures) _ _ c.in_err-stage_step.ensures _ refl)

pub turn-requires : goal.turn-requires
turn-requires c = checking_turn _ _ _ _ _ _ _ _ _ _ c.requires _ _ _ _ _ _ c.loop-k.invariant.1 c.loop-k-test.true

pub overflow_add-from : goal.overflow_add-from
overflow_add-from c = omega (arith, c.loop-k.invariant.0, checking_there _ _ _ _ _ _ _ _ _ _ c.requires _ _ _ _ _ _ c.loop-k.invariant.1 c.loop-k-test.true _ c.wide-count.ensures _ (end_is _ c.requires.here.tall c.stage_size-size.ensures) _ _ c.in_ok-stage_step.ensures refl)

pub overflow_sub-left : goal.overflow_sub-left
overflow_sub-left c = checking_few _ _ _ _ _ _ _ _ _ _ c.requires _ _ _ _ _ _ c.loop-k.invariant.1 c.loop-k-test.true _ c.wide-count.ensures _ (end_is _ c.requires.here.tall c.stage_size-size.ensures) _ _ c.in_ok-stage_step.ensures refl

pub loop-k-preserved : goal.loop-k-preserved
loop-k-preserved c = (c.loop-k.invariant.0, checking_more _ _ _ _ _ _ _ _ _ _ c.requires _ _ _ _ _ _ c.loop-k.invariant.1 c.loop-k-test.true _ c.wide-count.ensures _ (end_is _ c.requires.here.tall c.stage_size-size.ensures) _ _ c.in_ok-stage_step.ensures refl _ c.turn.ensures)

pub shape_of-looks : goal.shape_of-looks
shape_of-looks c = c.loop-k.invariant.1.held.size ∙ sym c.requires.held.size

pub shape_of-written : goal.shape_of-written
shape_of-written c = c.loop-k.invariant.1.size ∙ sym c.requires.size

pub returns : goal.returns
returns c = checking_done _ _ _ _ _ _ _ _ _ _ c.requires _ _ _ _ _ _ c.loop-k.invariant.1 c.loop-k-test.false
