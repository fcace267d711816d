use native.Mathlib.Omega.{arith}
use mathlib.Core.Path.{refl}
use Rattle.replay_tape.proofs.Laws.Plans.{slots_none, slots_more, slots_done}
use Rattle.replay_tape.proofs.plans.first_slots.Goals as goal

pub loop-p-init : goal.loop-p-init
loop-p-init c = slots_none _

pub loop-p-preserved : goal.loop-p-preserved
loop-p-preserved c = slots_more _ _ _ c.loop-p.invariant (omega (arith, c.loop-p.invariant.len)) _ refl

pub returns : goal.returns
returns c = slots_done _ _ _ c.loop-p.invariant (omega (arith, c.loop-p.invariant.len))
