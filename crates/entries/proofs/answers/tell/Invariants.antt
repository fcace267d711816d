-- `entries::answers::tell` meets its contract: the first i numbers are written. Assumes nothing.
use Rattle.entries.proofs.Laws.Entry.{Telling}
use Rattle.entries.proofs.answers.tell.Given as goal

abbrev pub invariant-loop-i : goal.invariant-loop-i
invariant-loop-i l = Telling l.numbers l.initial.answer l.answer l.i
