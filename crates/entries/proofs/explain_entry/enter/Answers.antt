-- `entries::explain_entry::enter` meets its contract. Assumes nothing.
use native.Mathlib.Omega.{arith}
use Rattle.placer.specs.Answers as placer
use Rattle.explain.specs.Answers.{explained}
use Rattle.entries.specs.Explain.{lent_to, told, build_explained}
use Rattle.entries.proofs.Laws.Entry.{entry_short}
use Rattle.entries.proofs.Laws.Explain.{entry_explained}
use Rattle.entries.proofs.explain_entry.enter.Goals as goal

pub returns-then-answer-lt7 : goal.returns-then-answer-lt7
unfolding build_explained told
returns-then-answer-lt7 c = entry_short _ _ _ _ _ (omega (arith, c.if-answer-lt7.true))

pub returns-in-Ok : goal.returns-in-Ok
unfolding lent_to told explained placer.told
returns-in-Ok c = entry_explained _ _ _ _ _ _ _ _ _ _ (omega (arith, c.if-answer-lt7.false)) _ (rw c.in-Ok.is at c.explain-e.ensures) c.tell.ensures

pub returns-in-Err : goal.returns-in-Err
unfolding lent_to told explained placer.told
returns-in-Err c =
    rw c.number-number.ensures (entry_explained _ _ _ _ _ _ _ _ _ _ (omega (arith, c.if-answer-lt7.false)) _ (rw c.in-Err.is at c.explain-e.ensures)
    (rw (c.wide.ensures, c.number-number.ensures, c.index.ensures, c.pin.ensures) at c.tell-in-Err.ensures))
