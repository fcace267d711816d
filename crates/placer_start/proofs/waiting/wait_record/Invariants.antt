-- `placer_start::waiting::wait_record` meets its contract: the record's pins wait one after the other. Assumes nothing.
use Rattle.placer_start.proofs.Laws.Waiting.{Listing}
use Rattle.placer_start.proofs.waiting.wait_record.Given as goal

abbrev pub invariant-loop-i : goal.invariant-loop-i
invariant-loop-i l = Listing l.m l.n l.at l.i l.size l.records l.initial.work l.work l.k
