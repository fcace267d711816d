-- `fold_stage::bits::as_number` meets its contract. Assumes nothing.
use Rattle.rules.specs.Fold.{as_number}
use Rattle.fold_stage.proofs.bits.as_number.Goals as goal

pub returns : goal.returns
unfolding as_number
returns c = c.from.ensures
