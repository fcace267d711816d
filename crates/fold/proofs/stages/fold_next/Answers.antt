-- `fold::stages::fold_next` meets its contract. Assumes nothing.
use Rattle.fold.proofs.Laws.Stages.{forgotten, left}
use Rattle.fold.proofs.stages.fold_next.Goals as goal

pub returns : goal.returns
returns c = let p = c.requires in let s = c.next_stage.ensures in record { bits = s; left = left _ _ _ _ _ p.up.stage p.size s _ _ (forgotten _ _ _ _ p.only c.forget.ensures) c.remember.ensures }
