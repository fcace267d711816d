-- `replay_tape::plans::make_plan` meets its contract. Assumes nothing.
use Prim.Native.Nat.{◌-◌}
use lib.ListN.{length}
use Rattle.replay_tape.proofs.Laws.Plans.{Standing}
use Rattle.replay_tape.proofs.plans.make_plan.Given as goal

abbrev pub invariant-loop-at : goal.invariant-loop-at
invariant-loop-at l = Standing l.height.0 l.pins l.plan l.initial.slots l.initial.tape l.at l.slots l.looks l.tape l.count

abbrev pub decreases-loop-at : goal.decreases-loop-at
decreases-loop-at l = length l.plan - l.at
