-- `aiger_write::lines::output_lines` meets its contract: after i turns the lines of i outputs are laid. Assumes nothing.
use Prim.Native.Nat.{◌≤◌}
use Rattle.aiger_write.specs.Lines.{output_text}
use Rattle.aiger_write.proofs.Laws.Lines.{LaidTo}
use Rattle.aiger_write.proofs.lines.output_lines.Given as goal

abbrev pub invariant-loop-i : goal.invariant-loop-i
invariant-loop-i l = (l.i ≤ l.n) × LaidTo (output_text l.records l.from) l.limit l.at l.initial.out l.i l.now l.out
