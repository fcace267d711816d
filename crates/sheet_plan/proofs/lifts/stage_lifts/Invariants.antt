-- `sheet_plan::lifts::stage_lifts` meets its contract. Assumes nothing.
use Rattle.sheet_plan.proofs.Laws.Lifts.{Going}
use Rattle.sheet_plan.proofs.lifts.stage_lifts.Given as goal

abbrev pub invariant-loop-p : goal.invariant-loop-p
invariant-loop-p l = Going l.height.0 l.gates l.cells l.p
