-- `plan_check::stages::stage_step` meets its contract. Assumes nothing.
use mathlib.Core.Path.{refl}
use Rattle.std.proofs.lemmas.Result.{err_from_is_err_and}
use Rattle.plan_check.proofs.stages.stage_step.Goals as goal

pub returns-in_err-stage_place : goal.returns-in_err-stage_place
returns-in_err-stage_place c =
    let p = err_from_is_err_and c.from_residual.result c.from_residual.ensures.1 in
    rw (p.1, p.2) (record { says = c.in_err-stage_place.ensures; len = refl; each = tt })

pub mark_words-requires : goal.mark_words-requires
mark_words-requires c = c.in_ok-stage_place.ensures.at

pub returns : goal.returns
returns c = record { says = c.in_ok-stage_place.ensures; len = c.mark_words.ensures.len; each = c.mark_words.ensures.each }
