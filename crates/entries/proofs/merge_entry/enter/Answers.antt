-- `entries::merge_entry::enter` meets its contract. Assumes nothing.
use native.Mathlib.Omega.{arith}
use Rattle.merge.specs.Merge.{told, outcome}
use Rattle.entries.specs.Merge.{lent, rest, merged}
use Rattle.entries.proofs.Laws.Entry.{entry_short}
use Rattle.entries.proofs.Laws.Merge.{entry_merged}
use Rattle.entries.proofs.merge_entry.enter.Goals as goal

pub returns-then-answer-lt9 : goal.returns-then-answer-lt9
unfolding merged rest
returns-then-answer-lt9 c = entry_short _ _ _ _ _ (omega (arith, c.if-answer-lt9.true))

pub returns-in-Ok : goal.returns-in-Ok
unfolding lent rest told outcome
returns-in-Ok c = entry_merged _ _ _ _ _ _ _ _ _ _ _ _ _ (omega (arith, c.if-answer-lt9.false)) _ (rw c.in-Ok.is at c.merge-merged.ensures) c.tell.ensures

pub returns-in-Err : goal.returns-in-Err
unfolding lent rest told outcome
returns-in-Err c =
    rw c.number-number.ensures (entry_merged _ _ _ _ _ _ _ _ _ _ _ _ _ (omega (arith, c.if-answer-lt9.false)) _ (rw c.in-Err.is at c.merge-merged.ensures)
    (rw (c.wide.ensures, c.number-number.ensures, c.index.ensures, c.pin.ensures) at c.tell-in-Err.ensures))
