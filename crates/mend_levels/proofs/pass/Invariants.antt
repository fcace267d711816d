-- `mend_levels::pass` meets its contract. Assumes nothing.
use Rattle.rules.specs.Graph.{graph_of}
use Rattle.mend_levels.proofs.Laws.{PassedTo}
use Rattle.mend_levels.proofs.pass.Given as goal

abbrev pub invariant-loop-p : goal.invariant-loop-p
invariant-loop-p l = PassedTo (graph_of l.gates) l.stop l.cap l.initial.levels l.p l.levels l.changed
