-- `stage::finish::finish_last` meets its contract: rule 10, then rule 11 over what it realised. Assumes nothing.
use Rattle.stage.proofs.Laws.Ended.{close_at, ended}
use Rattle.stage.proofs.finish.finish_last.Goals as goal

pub close_stage-left-requires : goal.close_stage-left-requires
close_stage-left-requires c = close_at c.requires.at (c.write_last-kept.ensures.all _ c.requires.at)

pub returns : goal.returns
returns c = record { all = λ x A. ended A (c.write_last-kept.ensures.all x A) c.close_stage-left.ensures _ c.tail_get-cells.ensures }
