-- `aiger_write::lines::count_inputs` meets its contract: after p turns n of the first p pins are counted. Assumes nothing.
use Prim.Native.Nat.{◌≤◌}
use Rattle.aiger_write.specs.Lines.{is_input}
use Rattle.aiger_write.proofs.Laws.Lines.{Counted}
use Rattle.aiger_write.proofs.lines.count_inputs.Given as goal

abbrev pub invariant-loop-p : goal.invariant-loop-p
invariant-loop-p l = (l.p ≤ l.pins) × Counted (is_input l.gates l.marks) l.p l.n
