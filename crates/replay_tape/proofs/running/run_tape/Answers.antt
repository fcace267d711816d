use Prim.Native.Nat.{◌*◌, ◌+◌}
use mathlib.Core.Path.{refl}
use native.Mathlib.Omega.{arith}
use Rattle.replay_tape.proofs.Laws.Running.{ran_none, first_below, second_below, slot_small, ran_step, ran_done}
use Rattle.replay_tape.proofs.running.run_tape.Goals as goal

pub loop-k-init : goal.loop-k-init
loop-k-init c = ran_none _ _ _ _ c.requires

pub bounds-bits-a : goal.bounds-bits-a
bounds-bits-a c = omega (arith, c.loop-k.invariant.len, c.requires.room, first_below _ _ _ _ c.requires _ _ c.loop-k.invariant c.loop-k-test.true _ _ c.wide-a.ensures c.wide-b.ensures)

pub overflow_add-x : goal.overflow_add-x
overflow_add-x c = omega (arith, c.type_inv.tape (2 * c.loop-k.k), c.wide-a.ensures, slot_small _ _ _ _ c.requires _ _ c.loop-k.invariant c.loop-k-test.true _ (first_below _ _ _ _ c.requires _ _ c.loop-k.invariant c.loop-k-test.true _ _ c.wide-a.ensures c.wide-b.ensures))

pub bounds-bits-b : goal.bounds-bits-b
bounds-bits-b c = omega (arith, c.loop-k.invariant.len, c.requires.room, second_below _ _ _ _ c.requires _ _ c.loop-k.invariant c.loop-k-test.true _ _ c.wide-a.ensures c.wide-b.ensures)

pub overflow_add-y : goal.overflow_add-y
overflow_add-y c = omega (arith, c.type_inv.tape (2 * c.loop-k.k + 1), c.wide-b.ensures, slot_small _ _ _ _ c.requires _ _ c.loop-k.invariant c.loop-k-test.true _ (second_below _ _ _ _ c.requires _ _ c.loop-k.invariant c.loop-k-test.true _ _ c.wide-a.ensures c.wide-b.ensures))

pub bounds-bits-pins : goal.bounds-bits-pins
bounds-bits-pins c = omega (arith, c.loop-k.invariant.len, c.requires.room)

pub loop-k-preserved : goal.loop-k-preserved
loop-k-preserved c = ran_step _ _ _ _ c.requires _ _ c.loop-k.invariant c.loop-k-test.true _ _ c.wide-a.ensures c.wide-b.ensures _ _ refl refl

pub returns : goal.returns
returns c = ran_done _ _ _ _ c.requires _ _ c.loop-k.invariant c.loop-k-test.false
