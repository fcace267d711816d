use Rattle.stage_ending.proofs.Laws.Words.{going_none, row_cell, going_more}
use Rattle.stage_ending.proofs.words.row.Goals as goal

pub loop-c-init : goal.loop-c-init
loop-c-init c = record { all = λ ws R. going_none R }

pub loop-c-preserved : goal.loop-c-preserved
loop-c-preserved c = record { all = λ ws R. going_more R (c.loop-c.invariant.all ws R) c.loop-c-test.true (c.cell-k.ensures.all _ (row_cell R (c.loop-c.invariant.all ws R) c.loop-c-test.true)) }
