-- `plan_check_stage::ending::mark_words` meets its contract. Assumes nothing.
use Rattle.plan_check_stage.proofs.Laws.Ending.{HeldTo}
use Rattle.plan_check_stage.proofs.ending.mark_words.Given as goal

abbrev pub invariant-loop-word : goal.invariant-loop-word
invariant-loop-word l = HeldTo l.cells l.words l.count l.initial.marks l.word-index l.marks
