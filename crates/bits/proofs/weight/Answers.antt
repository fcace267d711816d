-- `bits::weight` meets its contract. Assumes nothing.
use Rattle.bits.proofs.Laws.Putting.{shifted}
use Rattle.bits.proofs.weight.Goals as goal

pub returns : goal.returns
returns c = shifted c.args.i c.requires
