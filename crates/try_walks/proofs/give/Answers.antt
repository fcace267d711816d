use native.Mathlib.Omega.{arith}
use Rattle.try_walks.proofs.Starts.{given_none, given_more}
use Rattle.try_walks.proofs.give.Goals as goal

pub loop-pin-init : goal.loop-pin-init
loop-pin-init c = given_none c.requires

pub set_field-requires : goal.set_field-requires
set_field-requires c = omega (arith, c.requires.pins _ c.loop-pin-test.true, c.requires.area.room, c.loop-pin.invariant.frame.len)

pub loop-pin-preserved : goal.loop-pin-preserved
loop-pin-preserved c = given_more c.requires c.loop-pin.invariant _ _ (omega (arith, c.requires.pins _ c.loop-pin-test.true)) c.set_field.ensures

pub shape_of-work : goal.shape_of-work
shape_of-work c = c.loop-pin.invariant.frame.len

pub returns : goal.returns
returns c = c.loop-pin.invariant
