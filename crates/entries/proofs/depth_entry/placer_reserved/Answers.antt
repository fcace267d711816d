-- `entries::depth_entry::placer_reserved` meets its contract. Assumes nothing.
use native.Mathlib.Omega.{arith}
use Rattle.depth.specs.Calls.{telling, aside_outcome}
use Rattle.entries.specs.Depth.{reserved_told}
use Rattle.entries.proofs.Laws.Entry.{entry_short}
use Rattle.entries.proofs.Laws.Depth.{entry_aside}
use Rattle.entries.proofs.depth_entry.placer_reserved.Goals as goal

pub returns-then-answer-lt5 : goal.returns-then-answer-lt5
unfolding reserved_told
returns-then-answer-lt5 c = entry_short _ _ _ _ _ (omega (arith, c.if-answer-lt5.true))

pub returns-in-Ok : goal.returns-in-Ok
unfolding telling aside_outcome
returns-in-Ok c = entry_aside _ _ _ _ _ (omega (arith, c.if-answer-lt5.false)) _ (rw c.in-Ok.is at c.reserved.ensures) c.tell.ensures

pub returns-in-Err : goal.returns-in-Err
unfolding telling aside_outcome
returns-in-Err c =
    rw c.number-number.ensures (entry_aside _ _ _ _ _ (omega (arith, c.if-answer-lt5.false)) _ (rw c.in-Err.is at c.reserved.ensures) (rw (c.wide.ensures, c.number-number.ensures, c.index.ensures, c.pin.ensures) at c.tell-in-Err.ensures))
