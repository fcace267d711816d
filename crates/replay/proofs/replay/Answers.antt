-- `replay::replay` meets its contract. Assumes nothing.
use Rattle.std.proofs.lemmas.Result.{err_from_is_err_and}
use Rattle.replay.proofs.Laws.Checked.{refused_first, checked_in, refused_later, built_in}
use Rattle.replay.proofs.replay.Goals as goal

pub returns-in_err-refusal : goal.returns-in_err-refusal
returns-in_err-refusal c =
    let p = err_from_is_err_and c.from_residual.result c.from_residual.ensures.1 in
    rw (p.1, p.2) (refused_first _ _ _ _ _ _ _ _ _ _ _ _ _ _ _ _ _ _ c.replay_sized-sized.ensures c.in_err-refusal.ensures)

pub later_refusal-requires : goal.later_refusal-requires
later_refusal-requires c = let checks = checked_in _ _ _ _ _ c.in_ok-refusal.ensures in record { checked = checks.0; readable = checks.1 }

pub returns-in_err-later_refusal : goal.returns-in_err-later_refusal
returns-in_err-later_refusal c =
    let r = c.from_residual-in_err-later_refusal in
    let p = err_from_is_err_and r.result r.ensures.1 in
    rw (p.1, p.2) (refused_later _ _ _ _ _ _ _ _ _ _ _ _ _ _ _ _ _ _ c.replay_sized-sized.ensures c.in_ok-refusal.ensures _ c.in_err-later_refusal.ensures.number c.in_err-later_refusal.ensures.pin)

pub build_and_run-requires : goal.build_and_run-requires
build_and_run-requires c = built_in _ _ _ _ _ _ _ _ _ _ _ _ _ _ _ _ _ _ c.replay_sized-sized.ensures c.in_ok-refusal.ensures c.in_ok-later_refusal.ensures.number
