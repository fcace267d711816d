-- `aiger_write::jobs::shaped` meets its contract. Assumes nothing.
use Rattle.aiger_write.proofs.Laws.Shape.{Flips}
use Rattle.aiger_write.proofs.jobs.shaped.Given as goal

abbrev pub invariant-loop-i : goal.invariant-loop-i
invariant-loop-i l = Flips l.n l.records l.i
