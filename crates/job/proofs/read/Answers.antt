-- `job::read` meets its contract: the first walk measures, the second stores. Assumes nothing.
use native.Mathlib.Omega.{arith}
use mathlib.Core.Path.{sym, ◌∙◌}
use Rattle.job.specs.Answers.{outcome, refused}
use Rattle.job.proofs.Laws.Answers.{too_long, no_job_lem, cut_job, never_cut, as_before, refuses_bytes, refuses_room, reads}
use Rattle.job.proofs.read.Goals as goal

pub returns-then-bytes-gt8192 : goal.returns-then-bytes-gt8192
unfolding outcome refused
returns-then-bytes-gt8192 c = refuses_bytes _ _ _ _ (too_long c.args.bytes.now c.if-bytes-gt8192.true)

pub returns-in_default : goal.returns-in_default
unfolding outcome refused
returns-in_default c = let M = c.in_default.ensures in as_before M _ _ (refuses_bytes _ _ _ _ (cut_job c.if-bytes-gt8192.false M.measured (omega arith)))

pub returns-then-not-is_job : goal.returns-then-not-is_job
unfolding outcome refused
returns-then-not-is_job c = let M = c.in-Some.ensures.0 in as_before M _ _ (refuses_bytes _ _ _ _ (no_job_lem c.if-bytes-gt8192.false M.measured (sym c.is_job.ensures ∙ c.if-not-is_job.true)))

pub returns-then-not-has_room : goal.returns-then-not-has_room
unfolding outcome refused
returns-then-not-has_room c =
    let M = c.in-Some.ensures.0 in
    as_before M _ _ (refuses_room c.if-bytes-gt8192.false M.measured (sym c.is_job.ensures ∙ c.if-not-is_job.false) _ _ _ (sym c.has_room.ensures ∙ c.if-not-has_room.true))

pub returns-in_default-walk : goal.returns-in_default-walk
returns-in_default-walk c = let M = c.in-Some.ensures in absurd (never_cut c.in_default-walk.ensures M.0.measured M.1 (omega arith))

pub returns : goal.returns
unfolding outcome refused
returns c =
    let M = c.in-Some.ensures.0 in
    as_before M _ _ (reads c.in-Some-walk.ensures.0 c.if-bytes-gt8192.false M.measured (sym c.is_job.ensures ∙ c.if-not-is_job.false) (sym c.has_room.ensures ∙ c.if-not-has_room.false))
