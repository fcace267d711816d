-- `mend_stage::mend_stage` meets its contract. Assumes nothing.
use Rattle.rules.specs.Graph.{graph_of}
use Rattle.mend_stage.proofs.Laws.{MendedTo}
use Rattle.mend_stage.proofs.mend_stage.Given as goal

abbrev pub invariant-loop-p : goal.invariant-loop-p
invariant-loop-p l = MendedTo l.height.0 (graph_of l.gates) l.levels l.initial.cells l.p l.cells l.fixed
