use Rattle.graph_loops.proofs.Laws.Marking.{unmarked}
use borrow.Author.Rules.{rules}
use Rattle.graph_loops.proofs.unmark.Goals as goal
use Rattle.graph_loops.proofs.unmark.Goals.{then-rises, else-rises}

pub loop-p-preserved : goal.loop-p-preserved
loop-p-preserved c = elim c.if-rises.branch [
  | then-rises w ↦ (rw w.marks-is (unmarked _ _ c.requires.by_index _ _ c.loop-p.invariant.0 (c.rises.ensures w.if-rises.true)), search rules, search rules, search rules)
  | else-rises w ↦ (rw w.marks-is c.loop-p.invariant.0, search rules, search rules, search rules)
]
