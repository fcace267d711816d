-- `bits::bit` meets its contract: it is in the byte at an eighth of its index. Assumes nothing.
use Rattle.bits.proofs.Laws.Fields.{bit_at}
use Rattle.bits.proofs.bit.Goals as goal

pub returns : goal.returns
returns c = let a = c.args in cc (bit_at a.bytes.now a.at c.requires, c.from.ensures)
