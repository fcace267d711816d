-- `plan_check::stages::marked_place` meets its contract. Assumes nothing.
use mathlib.Core.List.{[]}
use mathlib.Core.Path.{refl}
use Rattle.plan_check.proofs.Laws.Answers.{first_at, last_at, marked_wrong, marked_last}
use Rattle.std.proofs.lemmas.Result.{err_from_is_err_and}
use Rattle.plan_check.proofs.stages.marked_place.Goals as goal

pub first_place-requires : goal.first_place-requires
first_place-requires c = first_at _ _ [] _ _ [] _ _ _ _ _ c.requires

pub returns-in_err-first_place : goal.returns-in_err-first_place
returns-in_err-first_place c =
    let p = err_from_is_err_and c.from_residual.result c.from_residual.ensures.1 in
    rw (p.1, p.2) (marked_wrong _ _ _ _ _ _ _ _ _ _ _ c.requires _ _ _ c.word_limit.ensures c.set_aside.ensures c.saturating_sub-room.ensures _ _ c.in_err-first_place.ensures _ refl)

pub last_place-requires : goal.last_place-requires
last_place-requires c = last_at _ _ [] _ _ [] _ _ _ _ _ c.requires

pub returns : goal.returns
returns c = marked_last _ _ _ _ _ _ _ _ _ _ _ c.requires _ _ _ c.word_limit.ensures c.set_aside.ensures c.saturating_sub-room.ensures _ _ c.in_ok-first_place.ensures refl _ c.last_place.ensures
