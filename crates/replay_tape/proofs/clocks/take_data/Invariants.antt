-- `replay_tape::clocks::take_data` meets its contract: the first i flip-flops have their next bits. Assumes nothing.
use Rattle.replay_tape.proofs.Laws.Clocks.{TakenTo}
use Rattle.replay_tape.proofs.clocks.take_data.Given as goal

abbrev pub invariant-loop-i : goal.invariant-loop-i
invariant-loop-i l = TakenTo l.flips l.out l.initial.state l.i l.state
