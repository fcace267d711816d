use mathlib.Core.Path.{refl}
use native.Mathlib.Omega.{arith}
use Rattle.replay_tape.proofs.Laws.Clocks.{handed_none, place_inside, place_small, handed_more, handed_done}
use Rattle.replay_tape.proofs.clocks.hand_out.Goals as goal

pub loop-i-init : goal.loop-i-init
loop-i-init c = handed_none _ _ _ c.requires

pub bounds-bits-a : goal.bounds-bits-a
bounds-bits-a c = omega (arith, place_inside _ _ _ c.requires _ c.loop-i-test.true _ c.wide-a.ensures)

pub overflow_add-out : goal.overflow_add-out
overflow_add-out c = omega (arith, c.type_inv.places c.loop-i.i, c.wide-a.ensures, place_small _ _ _ c.requires _ c.loop-i-test.true _ c.wide-a.ensures)

pub loop-i-preserved : goal.loop-i-preserved
loop-i-preserved c = handed_more _ _ _ c.requires _ c.loop-i-test.true _ c.wide-a.ensures _ c.loop-i.invariant _ refl

pub returns : goal.returns
returns c = handed_done _ _ _ c.requires _ _ c.loop-i.invariant c.loop-i-test.false
