-- `fold::stages::next_stage` meets its contract: level 0 is loaded, then the stage is folded up. Assumes nothing.
use Rattle.fold_stage.proofs.Laws.Loads.{row_right}
use Rattle.fold.proofs.stages.next_stage.Goals as goal

pub returns : goal.returns
returns c = c.fold_up.ensures.all _ (row_right _ _ _ _ _ c.load_next.ensures)
