-- `entries::sheet_entry::read_sheet` meets its contract. Assumes nothing.
use native.Mathlib.Omega.{arith}
use Rattle.entries.specs.Sheets.{sheet_read}
use Rattle.entries.proofs.Laws.Entry.{entry_short}
use Rattle.entries.proofs.Laws.Sheets.{entry_sheet_read}
use Rattle.entries.proofs.sheet_entry.read_sheet.Goals as goal

pub returns-then-answer-lt4 : goal.returns-then-answer-lt4
unfolding sheet_read
returns-then-answer-lt4 c = entry_short _ _ _ _ _ (omega (arith, c.if-answer-lt4.true))

pub returns-in-Ok : goal.returns-in-Ok
returns-in-Ok c = entry_sheet_read _ _ _ _ (omega (arith, c.if-answer-lt4.false)) _ (rw c.in-Ok.is at c.read.ensures) (rw c.wide.ensures at c.tell.ensures)

pub returns-in-Err : goal.returns-in-Err
returns-in-Err c =
    rw c.number-number.ensures (entry_sheet_read _ _ _ _ (omega (arith, c.if-answer-lt4.false)) _ (rw c.in-Err.is at c.read.ensures) (rw (c.wide-in-Err.ensures, c.number-number.ensures) at c.tell-in-Err.ensures))
