-- `bits::with_bit` meets its contract: the new bit's weight comes, the old one's goes. Assumes nothing.
use native.Mathlib.Omega.{arith}
use Rattle.bits.proofs.Laws.Putting.{weigh, with_bit}
use Rattle.bits.proofs.with_bit.Goals as goal

pub overflow_mul-result : goal.overflow_mul-result
overflow_mul-result c = omega (arith, (weigh c.requires c.weight-p.ensures).new)

pub overflow_add-result : goal.overflow_add-result
overflow_add-result c = omega (arith, c.requires.byte, (weigh c.requires c.weight-p.ensures).new)

pub nonzero_div-result : goal.nonzero_div-result
nonzero_div-result c = omega (arith, (weigh c.requires c.weight-p.ensures).some)

pub overflow_mul-result-2 : goal.overflow_mul-result-2
overflow_mul-result-2 c = omega (arith, (weigh c.requires c.weight-p.ensures).old)

pub overflow_sub-result : goal.overflow_sub-result
overflow_sub-result c = (weigh c.requires c.weight-p.ensures).less

pub returns : goal.returns
returns c = with_bit c.requires c.weight-p.ensures
