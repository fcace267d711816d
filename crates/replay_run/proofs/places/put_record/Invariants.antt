-- `replay_run::places::put_record` meets its contract: the first i numbers have their places. Assumes nothing.
use Rattle.replay_run.proofs.Laws.Places.{RecordTo}
use Rattle.replay_run.proofs.places.put_record.Given as goal

abbrev pub invariant-loop-i : goal.invariant-loop-i
invariant-loop-i l = RecordTo l.records l.reads l.at l.size l.j l.initial.places l.i l.places
