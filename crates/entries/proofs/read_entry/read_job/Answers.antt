-- `entries::read_entry::read_job` meets its contract. Assumes nothing.
use native.Mathlib.Omega.{arith}
use Rattle.job.specs.Answers.{outcome}
use Rattle.entries.specs.Jobs.{job_read, lists}
use Rattle.entries.proofs.Laws.Entry.{entry_short}
use Rattle.entries.proofs.Laws.Files.{entry_read}
use Rattle.entries.proofs.read_entry.read_job.Goals as goal

pub returns-then-answer-lt5 : goal.returns-then-answer-lt5
unfolding job_read
returns-then-answer-lt5 c = entry_short _ _ _ _ _ (omega (arith, c.if-answer-lt5.true))

pub returns-in-Ok : goal.returns-in-Ok
unfolding outcome lists
returns-in-Ok c = entry_read _ _ _ _ _ (omega (arith, c.if-answer-lt5.false)) _ (rw c.in-Ok.is at c.read.ensures) (rw c.wide.ensures at c.tell.ensures)

pub returns-in-Err : goal.returns-in-Err
unfolding outcome lists
returns-in-Err c =
    rw c.number-number.ensures (entry_read _ _ _ _ _ (omega (arith, c.if-answer-lt5.false)) _ (rw c.in-Err.is at c.read.ensures) (rw (c.wide-in-Err.ensures, c.number-number.ensures) at c.tell-in-Err.ensures))
