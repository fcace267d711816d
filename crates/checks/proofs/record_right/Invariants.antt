-- `checks::record_right` meets its contract. Assumes nothing.
use Rattle.checks.proofs.Laws.Turns.{PinsLeft}
use Rattle.checks.proofs.record_right.Given as goal

abbrev pub invariant-loop-i : goal.invariant-loop-i
invariant-loop-i l = PinsLeft l.pins l.records l.at l.size l.i
