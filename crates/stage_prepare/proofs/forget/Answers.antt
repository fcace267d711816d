-- `stage_prepare::forget` meets its contract: the two fronts. Assumes nothing.
use Rattle.stage_prepare.proofs.Forgets.{forgot}
use Rattle.stage_prepare.proofs.forget.Goals as goal

pub returns : goal.returns
returns c = forgot c.requires _ _ c.clear_front.ensures c.clear_front-2.ensures
