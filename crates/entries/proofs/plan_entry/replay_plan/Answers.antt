-- `entries::plan_entry::replay_plan` meets its contract. Assumes nothing.
use native.Mathlib.Omega.{arith}
use Rattle.replay_finished.specs.Answers.{outcome}
use Rattle.entries.specs.Plans.{place, plan_replayed}
use Rattle.entries.proofs.Laws.Entry.{entry_short}
use Rattle.entries.proofs.Laws.Plans.{entry_finished}
use Rattle.entries.proofs.plan_entry.replay_plan.Goals as goal

pub returns-then-answer-lt4 : goal.returns-then-answer-lt4
unfolding plan_replayed place
returns-then-answer-lt4 c = entry_short _ _ _ _ _ (omega (arith, c.if-answer-lt4.true))

pub returns : goal.returns
unfolding outcome
returns c = entry_finished _ _ _ _ (omega (arith, c.if-answer-lt4.false)) _ c.replay_plan-checked.ensures c.tell_checked.ensures.number c.tell_checked.ensures.told
