-- `aiger_read::ends::fill_ends` meets its contract. Assumes nothing.
use Prim.Native.Nat.{◌-◌}
use lib.ListN.{length}
use Rattle.aiger_rows.specs.Rows.{head_of}
use Rattle.aiger_read.proofs.Laws.Ends.{Filling}
use Rattle.aiger_read.proofs.ends.fill_ends.Given as goal

abbrev pub invariant-loop-h : goal.invariant-loop-h
invariant-loop-h l = Filling (head_of l.h) l.start l.bytes l.initial.records l.records l.initial.latches l.latches l.at l.i l.r l.l

abbrev pub decreases-loop-h : goal.decreases-loop-h
decreases-loop-h l = length l.bytes - l.at
