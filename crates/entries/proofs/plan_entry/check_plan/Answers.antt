-- `entries::plan_entry::check_plan` meets its contract. Assumes nothing.
use native.Mathlib.Omega.{arith}
use Rattle.entries.specs.Plans.{place, plan_checked}
use Rattle.entries.proofs.Laws.Entry.{entry_short}
use Rattle.entries.proofs.Laws.Plans.{entry_checked}
use Rattle.entries.proofs.plan_entry.check_plan.Goals as goal

pub returns-then-answer-lt4 : goal.returns-then-answer-lt4
unfolding plan_checked place
returns-then-answer-lt4 c = entry_short _ _ _ _ _ (omega (arith, c.if-answer-lt4.true))

pub returns : goal.returns
unfolding place
returns c = entry_checked _ _ _ _ _ _ _ _ _ (omega (arith, c.if-answer-lt4.false)) _ c.check_plan-checked.ensures c.tell_checked.ensures.number c.tell_checked.ensures.told
