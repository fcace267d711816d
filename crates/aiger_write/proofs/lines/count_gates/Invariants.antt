-- `aiger_write::lines::count_gates` meets its contract: after p turns n of the first p pins are counted. Assumes nothing.
use Prim.Native.Nat.{◌≤◌}
use Rattle.aiger_write.specs.Lines.{is_gate}
use Rattle.aiger_write.proofs.Laws.Lines.{Counted}
use Rattle.aiger_write.proofs.lines.count_gates.Given as goal

abbrev pub invariant-loop-p : goal.invariant-loop-p
invariant-loop-p l = (l.p ≤ l.pins) × Counted (is_gate l.gates) l.p l.n
