-- `aiger_write::lines::latch_lines` meets its contract: after i turns the lines of i latches are laid. Assumes nothing.
use Prim.Native.Nat.{◌≤◌}
use lib.ListN.{length}
use Rattle.aiger_write.specs.Lines.{latch_text}
use Rattle.aiger_write.proofs.Laws.Lines.{LaidTo}
use Rattle.aiger_write.proofs.lines.latch_lines.Given as goal

abbrev pub invariant-loop-i : goal.invariant-loop-i
invariant-loop-i l = (l.i ≤ length l.latches) × LaidTo (latch_text l.latches l.records) l.limit l.at l.initial.out l.i l.now l.out
