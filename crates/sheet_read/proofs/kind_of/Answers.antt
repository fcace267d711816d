-- `sheet_read::kind_of` meets its contract. Assumes nothing.
use Rattle.sheet_read.proofs.Laws.Answers.{known_two, known_other, known_none, known_one}
use Rattle.sheet_read.proofs.kind_of.Goals.{else-first-eq1-via-then-first-eq1+else-graph-ne0, else-first-eq1-via-else-first-eq1}
use Rattle.sheet_read.proofs.kind_of.Goals as goal

pub returns-then-first-eq2 : goal.returns-then-first-eq2
returns-then-first-eq2 c = known_two _ _ c.if-first-eq2.true

pub returns-then-graph-ne0 : goal.returns-then-graph-ne0
returns-then-graph-ne0 c = known_one _ _ c.if-first-eq2.false c.if-first-eq1.true c.if-graph-ne0.true

pub returns : goal.returns
returns c = elim c.else-first-eq1.branch [
  | else-first-eq1-via-then-first-eq1+else-graph-ne0 w ↦ known_none _ _ c.if-first-eq2.false w.if-first-eq1.true w.if-graph-ne0.false
  | else-first-eq1-via-else-first-eq1 w ↦ known_other _ _ c.if-first-eq2.false w.if-first-eq1.false
]
