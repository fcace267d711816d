-- `aiger_text::passes::use_lines` meets its contract. Assumes nothing.
use Prim.Native.Nat.{◌-◌}
use lib.ListN.{length}
use Rattle.aiger_rows.specs.Rows.{head_of}
use Rattle.aiger_text.proofs.Laws.Passes.{Look}
use Rattle.aiger_text.proofs.passes.use_lines.Given as goal

abbrev pub invariant-loop-x : goal.invariant-loop-x
invariant-loop-x l = Look (head_of l.h) l.start l.lo l.bytes l.map l.at l.i

abbrev pub decreases-loop-x : goal.decreases-loop-x
decreases-loop-x l = length l.bytes - l.at
