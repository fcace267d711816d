-- `aiger_text::file::reset_line` meets its contract. Assumes nothing.
use Prim.Native.Nat.{◌-◌}
use lib.ListN.{length}
use Rattle.aiger_rows.specs.Rows.{head_of}
use Rattle.aiger_text.proofs.Laws.Resets.{Resetting}
use Rattle.aiger_text.proofs.file.reset_line.Given as goal

abbrev pub invariant-loop-h : goal.invariant-loop-h
invariant-loop-h l = Resetting (head_of l.h) l.start l.bytes l.at l.i

abbrev pub decreases-loop-h : goal.decreases-loop-h
decreases-loop-h l = length l.bytes - l.at
