-- `stage_ending::close::wipe` meets its contract: three stores, each in a column of its own. Assumes nothing.
use Rattle.stage_ending.proofs.Laws.Close.{wiped}
use Rattle.stage_ending.proofs.close.wipe.Goals as goal

pub returns : goal.returns
returns c = wiped c.requires _ _ _ c.set_field.ensures c.set_field-2.ensures c.set_field-3.ensures
