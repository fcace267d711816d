-- `replay_tape::clocks::hand_out` meets its contract: the first i bits are handed out. Assumes nothing.
use Rattle.replay_tape.proofs.Laws.Clocks.{HandedTo}
use Rattle.replay_tape.proofs.clocks.hand_out.Given as goal

abbrev pub invariant-loop-i : goal.invariant-loop-i
invariant-loop-i l = HandedTo l.places l.bits l.initial.out l.i l.out
