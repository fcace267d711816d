use native.Mathlib.Omega.{arith}
use Rattle.try_walks.proofs.Starts.{waiting_none, waiting_at, waiting_more}
use Rattle.try_walks.proofs.list.Goals as goal

pub loop-pin-init : goal.loop-pin-init
loop-pin-init c = waiting_none c.requires

pub wait-n-requires : goal.wait-n-requires
wait-n-requires c = waiting_at c.requires c.loop-pin.invariant _ (omega (arith, c.requires.pins _ c.loop-pin-test.true))

pub loop-pin-preserved : goal.loop-pin-preserved
loop-pin-preserved c = waiting_more c.requires c.loop-pin.invariant _ c.wait-n.ensures

pub shape_of-work : goal.shape_of-work
shape_of-work c = c.loop-pin.invariant.frame.len

pub returns : goal.returns
returns c = c.loop-pin.invariant
