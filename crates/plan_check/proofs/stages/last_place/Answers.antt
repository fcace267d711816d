-- `plan_check::stages::last_place` meets its contract. Assumes nothing.
use Rattle.plan_check.proofs.Laws.Answers.{last_over, last_missing, last_right_lem}
use Rattle.plan_check.proofs.stages.last_place.Goals as goal
use Rattle.plan_check.proofs.stages.last_place.Goals.{then-over-via-then-over, then-over-via-else-over+then-not-all_written}

pub returns-then-over : goal.returns-then-over
returns-then-over c = elim c.then-over.branch [
  | then-over-via-then-over w ↦ last_over _ _ _ _ c.requires _ c.word_limit.ensures _ c.over.ensures w.if-over.true
  | then-over-via-else-over+then-not-all_written w ↦ last_missing _ _ _ _ c.requires _ c.word_limit.ensures _ c.over.ensures w.if-over.false _ w.all_written.ensures w.if-not-all_written.true
]

pub returns : goal.returns
returns c = last_right_lem _ _ _ _ c.requires _ c.word_limit.ensures _ c.over.ensures c.if-over.false _ c.all_written.ensures c.if-not-all_written.false
