-- `sheet_read::stages::lay` meets its contract. Assumes nothing.
use Rattle.sheet_read.proofs.Laws.Stages.{Laid}
use Rattle.sheet_read.proofs.stages.lay.Given as goal

abbrev pub invariant-loop-i : goal.invariant-loop-i
invariant-loop-i l = Laid l.initial.plan l.cells l.at l.i l.plan
