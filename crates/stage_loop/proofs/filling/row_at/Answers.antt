-- `stage_loop::filling::row_at` meets its contract: the height has the level. Assumes nothing.
use Rattle.stage_loop.proofs.Laws.Filling.{row_there}
use Rattle.stage_loop.proofs.filling.row_at.Goals as goal

pub returns : goal.returns
returns c = row_there c.requires c.row_at.ensures
