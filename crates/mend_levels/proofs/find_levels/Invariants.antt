-- `mend_levels::find_levels` meets its contract. Assumes nothing.
use lib.ListN.{length}
use Rattle.rules.specs.Graph.{graph_of}
use Rattle.mend_levels.proofs.Laws.{Risen}
use Rattle.mend_levels.proofs.find_levels.Given as goal

abbrev pub invariant-loop : goal.invariant-loop
invariant-loop l = Risen (graph_of l.gates) l.stop l.cap (length l.initial.levels) l.counter l.levels
