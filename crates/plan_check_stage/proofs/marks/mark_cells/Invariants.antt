-- `plan_check_stage::marks::mark_cells` meets its contract. Assumes nothing.
use Rattle.plan_check_stage.proofs.Laws.Marks.{MarksTo}
use Rattle.plan_check_stage.proofs.marks.mark_cells.Given as goal

abbrev pub invariant-loop-c : goal.invariant-loop-c
invariant-loop-c l = MarksTo l.cells l.v l.initial.marks l.c-index l.marks
