-- `checks::first_forward` meets its contract. Assumes nothing.
use Rattle.checks.proofs.Laws.Rising.{RisingLeft}
use Rattle.checks.proofs.first_forward.Given as goal

abbrev pub invariant-loop-p : goal.invariant-loop-p
invariant-loop-p l = RisingLeft l.gates l.pins l.p
