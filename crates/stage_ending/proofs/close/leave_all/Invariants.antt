-- `stage_ending::close::leave_all` meets its contract: one after the other, as they were realised. Assumes nothing.
use Rattle.stage_ending.specs.Close.{Leaving}
use Rattle.stage_ending.proofs.close.leave_all.Given as goal

abbrev pub invariant-loop-i : goal.invariant-loop-i
invariant-loop-i l = Leaving l.m l.n l.r l.i l.initial.work l.work l.left
