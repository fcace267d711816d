-- `plan_check_stage::right::first_wrong` meets its contract. Assumes nothing.
use Rattle.rules.specs.Graph.{graph_of}
use Rattle.plan_check_stage.proofs.Laws.Right.{WrongFrom}
use Rattle.plan_check_stage.proofs.right.first_wrong.Given as goal

abbrev pub invariant-loop-p : goal.invariant-loop-p
invariant-loop-p l = WrongFrom l.height.0 (graph_of l.gates) l.given l.looks l.first l.cells l.p
