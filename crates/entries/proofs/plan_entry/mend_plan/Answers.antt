-- `entries::plan_entry::mend_plan` meets its contract. Assumes nothing.
use native.Mathlib.Omega.{arith}
use Rattle.mending.specs.Call.{answer}
use Rattle.mend.specs.Calls.{outcome, replied}
use Rattle.entries.specs.Plans.{mend_to, plan_mended}
use Rattle.entries.proofs.Laws.Entry.{entry_short}
use Rattle.entries.proofs.Laws.Plans.{entry_mended}
use Rattle.entries.proofs.plan_entry.mend_plan.Goals as goal

pub returns-then-answer-lt5 : goal.returns-then-answer-lt5
unfolding plan_mended
returns-then-answer-lt5 c = entry_short _ _ _ _ _ (omega (arith, c.if-answer-lt5.true))

pub returns-in-Ok : goal.returns-in-Ok
unfolding mend_to outcome replied answer
returns-in-Ok c = entry_mended _ _ _ _ _ _ _ _ _ _ _ (omega (arith, c.if-answer-lt5.false)) _ (rw c.in-Ok.is at c.mend-mended.ensures) c.tell.ensures

pub returns-in-Err : goal.returns-in-Err
unfolding mend_to outcome replied answer
returns-in-Err c =
    rw c.number-number.ensures (entry_mended _ _ _ _ _ _ _ _ _ _ _ (omega (arith, c.if-answer-lt5.false)) _ (rw c.in-Err.is at c.mend-mended.ensures) (rw (c.wide.ensures, c.number-number.ensures, c.index.ensures, c.pin.ensures) at c.tell-in-Err.ensures))
