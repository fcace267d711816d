-- `entries::aiger_entry::read_aiger` meets its contract. Assumes nothing.
use native.Mathlib.Omega.{arith}
use Rattle.aiger_read.specs.Answers.{areas, outcome}
use Rattle.entries.specs.Aiger.{rest, aiger_read}
use Rattle.entries.proofs.Laws.Entry.{entry_short}
use Rattle.entries.proofs.Laws.Aiger.{entry_aiger_read}
use Rattle.entries.proofs.aiger_entry.read_aiger.Goals as goal

pub returns-then-answer-lt6 : goal.returns-then-answer-lt6
unfolding aiger_read rest
returns-then-answer-lt6 c = entry_short _ _ _ _ _ (omega (arith, c.if-answer-lt6.true))

pub returns-in-Ok : goal.returns-in-Ok
unfolding rest areas outcome
returns-in-Ok c = entry_aiger_read _ _ _ (omega (arith, c.if-answer-lt6.false)) _ (rw c.in-Ok.is at c.read.ensures) c.tell.ensures

pub returns-in-Err : goal.returns-in-Err
unfolding rest areas outcome
returns-in-Err c =
    rw c.number-number.ensures (entry_aiger_read _ _ _ (omega (arith, c.if-answer-lt6.false)) _ (rw c.in-Err.is at c.read.ensures) (rw (c.wide.ensures, c.number-number.ensures, c.index.ensures, c.pin.ensures) at c.tell-in-Err.ensures))
