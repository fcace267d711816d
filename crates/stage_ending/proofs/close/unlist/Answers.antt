-- `stage_ending::close::unlist` meets its contract: three stores, each in a column of its own. Assumes nothing.
use Rattle.stage_ending.proofs.Laws.Close.{unlisted}
use Rattle.stage_ending.proofs.close.unlist.Goals as goal

pub returns : goal.returns
returns c = unlisted c.requires _ _ _ c.set_field.ensures c.set_field-2.ensures c.set_field-3.ensures
