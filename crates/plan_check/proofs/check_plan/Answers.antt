-- `plan_check::check_plan` meets its contract. Assumes nothing.
use mathlib.Core.List.{[]}
use Rattle.std.proofs.lemmas.Result.{err_from_is_err_and}
use Rattle.plan_check.proofs.Laws.Answers.{answer_refused, room_at, plan_at, answer_fault, answer_none}
use Rattle.plan_check.proofs.check_plan.Goals as goal

pub returns-in-Err : goal.returns-in-Err
returns-in-Err c = rw c.from.ensures (answer_refused _ _ _ _ _ _ _ _ _ c.plan_fits-sized.ensures _ c.in-Err.ensures)

pub counted-count-requires : goal.counted-count-requires
counted-count-requires c = room_at _ _ _ _ _ c.in_default.ensures

pub plan_place-requires : goal.plan_place-requires
plan_place-requires c = plan_at _ _ _ _ _ [] _ _ _ c.plan_fits-sized.ensures c.in_default.ensures _ c.counted-count.ensures

pub returns-in_err-plan_place : goal.returns-in_err-plan_place
returns-in_err-plan_place c =
    let p = err_from_is_err_and c.from_residual.result c.from_residual.ensures.1 in
    rw (p.1, p.2) (answer_fault _ _ _ _ _ _ _ _ _ c.plan_fits-sized.ensures c.in_default.ensures _ c.in_err-plan_place.ensures)

pub returns : goal.returns
returns c = answer_none _ _ _ _ _ _ _ _ _ c.plan_fits-sized.ensures c.in_default.ensures c.in_ok-plan_place.ensures
