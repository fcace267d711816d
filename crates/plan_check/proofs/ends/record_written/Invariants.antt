-- `plan_check::ends::record_written` meets its contract. Assumes nothing.
use Rattle.plan_check.proofs.Laws.Ends.{PinsTo}
use Rattle.plan_check.proofs.ends.record_written.Given as goal

abbrev pub invariant-loop-i : goal.invariant-loop-i
invariant-loop-i l = PinsTo l.records l.written l.at l.size l.i
