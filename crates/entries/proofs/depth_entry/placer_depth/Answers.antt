-- `entries::depth_entry::placer_depth` meets its contract. Assumes nothing.
use native.Mathlib.Omega.{arith}
use Rattle.depth.specs.Calls.{telling, outcome}
use Rattle.entries.specs.Depth.{depth_told}
use Rattle.entries.proofs.Laws.Entry.{entry_short}
use Rattle.entries.proofs.Laws.Depth.{entry_deep}
use Rattle.entries.proofs.depth_entry.placer_depth.Goals as goal

pub returns-then-answer-lt3 : goal.returns-then-answer-lt3
unfolding depth_told
returns-then-answer-lt3 c = entry_short _ _ _ _ _ (omega (arith, c.if-answer-lt3.true))

pub returns-in-Ok : goal.returns-in-Ok
unfolding telling outcome
returns-in-Ok c = entry_deep _ _ _ _ _ (omega (arith, c.if-answer-lt3.false)) _ (rw c.in-Ok.is at c.depth.ensures) c.tell.ensures

pub returns-in-Err : goal.returns-in-Err
unfolding telling outcome
returns-in-Err c =
    rw c.number-number.ensures (entry_deep _ _ _ _ _ (omega (arith, c.if-answer-lt3.false)) _ (rw c.in-Err.is at c.depth.ensures) (rw (c.wide.ensures, c.number-number.ensures, c.index.ensures, c.pin.ensures) at c.tell-in-Err.ensures))
