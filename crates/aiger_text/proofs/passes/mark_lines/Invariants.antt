-- `aiger_text::passes::mark_lines` meets its contract. Assumes nothing.
use Prim.Native.Nat.{◌-◌}
use lib.ListN.{length}
use Rattle.aiger_rows.specs.Rows.{head_of}
use Rattle.aiger_text.proofs.Laws.Passes.{Scan}
use Rattle.aiger_text.proofs.passes.mark_lines.Given as goal

abbrev pub invariant-loop-x : goal.invariant-loop-x
invariant-loop-x l = Scan (head_of l.h) l.start l.lo l.bytes l.initial.map l.map l.initial.gates l.gates l.at l.i l.first

abbrev pub decreases-loop-x : goal.decreases-loop-x
decreases-loop-x l = length l.bytes - l.at
