use Rattle.bits.proofs.Laws.Putting.{going_all, going_bit, going_none}
use Rattle.bits.proofs.put.Goals as goal

pub loop-left-init : goal.loop-left-init
loop-left-init c = going_all

pub loop-left-preserved : goal.loop-left-preserved
loop-left-preserved c = going_bit c.loop-left-test.true c.loop-left.invariant c.put_bit.ensures

pub shape_of-bytes : goal.shape_of-bytes
shape_of-bytes c = c.loop-left.invariant.rest.len

pub returns : goal.returns
returns c = going_none c.loop-left-test.false c.loop-left.invariant
