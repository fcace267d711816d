-- `aiger_write::lines::input_lines` meets its contract: after p turns the lines of the first p pins are laid. Assumes nothing.
use Prim.Native.Nat.{◌≤◌}
use Rattle.aiger_write.specs.Lines.{input_text}
use Rattle.aiger_write.proofs.Laws.Lines.{LaidTo}
use Rattle.aiger_write.proofs.lines.input_lines.Given as goal

abbrev pub invariant-loop-p : goal.invariant-loop-p
invariant-loop-p l = (l.p ≤ l.pins) × LaidTo (input_text l.gates l.marks) l.limit l.at l.initial.out l.p l.now l.out
