-- `placer::lay` meets its contract: the areas are emptied, filled and tidied. Assumes nothing.
use Rattle.placer.proofs.Laws.Build.{laid}
use Rattle.placer.proofs.lay.Goals as goal

pub returns : goal.returns
returns c = laid c.requires c.empty_all.ensures c.attempt-laid.ensures c.is_ok.ensures.value c.tidy.ensures
