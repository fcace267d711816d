-- `aiger_write::lines::gate_lines` meets its contract: after p turns the lines of the first p pins are laid. Assumes nothing.
use Prim.Native.Nat.{◌≤◌}
use Rattle.aiger_write.specs.Lines.{gate_text}
use Rattle.aiger_write.proofs.Laws.Lines.{LaidTo}
use Rattle.aiger_write.proofs.lines.gate_lines.Given as goal

abbrev pub invariant-loop-p : goal.invariant-loop-p
invariant-loop-p l = (l.p ≤ l.pins) × LaidTo (gate_text l.gates) l.limit l.at l.initial.out l.p l.now l.out
