-- `replay_tape::clocks::put_bits` meets its contract: the pins from the i-th on have their bits. Assumes nothing.
use Rattle.replay_tape.proofs.Laws.Clocks.{PutFrom}
use Rattle.replay_tape.proofs.clocks.put_bits.Given as goal

abbrev pub invariant-loop-i : goal.invariant-loop-i
invariant-loop-i l = PutFrom l.pins l.values l.initial.bits l.i l.bits
