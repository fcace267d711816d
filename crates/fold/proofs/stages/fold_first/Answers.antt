-- `fold::stages::fold_first` meets its contract. Assumes nothing.
use Rattle.fold.proofs.Laws.Stages.{left}
use Rattle.fold.proofs.stages.fold_first.Goals as goal

pub returns : goal.returns
returns c = let p = c.requires in let s = c.first_stage.ensures in record { bits = s; left = left _ _ _ _ _ p.up.stage p.size s _ _ (c.fill.ensures.after (λ y e. e)) c.remember.ensures }
