-- `replay_finished::replay_plan` meets its contract. Assumes nothing.
use Rattle.std.proofs.lemmas.Result.{err_from_is_err_and}
use Rattle.replay.proofs.Laws.Checked.{checked_in}
use Rattle.replay_finished.proofs.Laws.Checked.{refused_first, refused_later, refused_plan, accepted_in, ran, told_none, told_some}
use Rattle.replay_finished.proofs.replay_plan.Goals as goal

pub returns-in_err-refusal : goal.returns-in_err-refusal
returns-in_err-refusal c =
    let r = c.from_residual in
    let p = err_from_is_err_and r.result r.ensures.1 in
    rw (p.1, p.2) (refused_first _ _ _ _ _ _ _ _ _ _ _ _ _ _ _ _ _ _ _ c.finished_sized-sized.ensures c.in_err-refusal.ensures)

pub later_refusal-requires : goal.later_refusal-requires
later_refusal-requires c = let checks = checked_in _ _ _ _ _ c.in_ok-refusal.ensures in record { checked = checks.0; readable = checks.1 }

pub returns-in_err-later_refusal : goal.returns-in_err-later_refusal
returns-in_err-later_refusal c =
    let r = c.from_residual-in_err-later_refusal in
    let p = err_from_is_err_and r.result r.ensures.1 in
    rw (p.1, p.2) (refused_later _ _ _ _ _ _ _ _ _ _ _ _ _ _ _ _ _ _ _ c.finished_sized-sized.ensures c.in_ok-refusal.ensures _ c.in_err-later_refusal.ensures.number c.in_err-later_refusal.ensures.pin)

pub returns-in_err-check_plan : goal.returns-in_err-check_plan
returns-in_err-check_plan c =
    let r = c.from_residual-in_err-check_plan in
    let p = err_from_is_err_and r.result r.ensures.1 in
    rw (p.1, p.2) (refused_plan _ _ _ _ _ _ _ _ _ _ _ _ _ _ _ _ _ _ _ c.finished_sized-sized.ensures c.in_ok-refusal.ensures c.in_ok-later_refusal.ensures.number _ c.in_err-check_plan.ensures (told_some _))

pub run_accepted-requires : goal.run_accepted-requires
run_accepted-requires c =
    accepted_in _ _ _ _ _ _ _ _ _ _ _ _ _ _ _ _ _ _ _ c.finished_sized-sized.ensures c.in_ok-refusal.ensures c.in_ok-later_refusal.ensures.number _ c.in_ok-check_plan.ensures (told_none _)

pub returns : goal.returns
returns c =
    ran _ _ _ _ _ _ _ _ _ _ _ _ _ _ _ _ _ _ _ c.finished_sized-sized.ensures c.in_ok-refusal.ensures c.in_ok-later_refusal.ensures.number _ c.in_ok-check_plan.ensures (told_none _)
    _ _ _ _ _ _ c.run_accepted.ensures
