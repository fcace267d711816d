-- `replay_tape::running::run_tape` meets its contract: after k turns the area has the bits of k entries. Assumes nothing.
use Rattle.replay_tape.proofs.Laws.Running.{Ran}
use Rattle.replay_tape.proofs.running.run_tape.Given as goal

abbrev pub invariant-loop-k : goal.invariant-loop-k
invariant-loop-k l = Ran l.pins l.entries l.tape l.initial.bits l.k l.bits
