use native.Mathlib.Omega.{arith}
use Rattle.replay_tape.proofs.Laws.Clocks.{put_none, put_inside, put_more, put_done}
use Rattle.replay_tape.proofs.clocks.put_bits.Goals as goal

pub loop-i-init : goal.loop-i-init
loop-i-init c = put_none _ _ _ c.requires

pub bounds-bits-p : goal.bounds-bits-p
bounds-bits-p c = omega (arith, put_inside _ _ _ c.requires _ _ c.loop-i.invariant c.loop-i-test.true _ c.wide-p.ensures)

pub loop-i-preserved : goal.loop-i-preserved
loop-i-preserved c = put_more _ _ _ c.requires _ _ c.loop-i.invariant c.loop-i-test.true _ c.wide-p.ensures _ c.bit.ensures

pub returns : goal.returns
returns c = put_done _ _ _ c.requires _ _ c.loop-i.invariant c.loop-i-test.false
