-- `replay_tape::plans::first_slots` meets its contract. Assumes nothing.
use Rattle.replay_tape.proofs.Laws.Plans.{SlotsTo}
use Rattle.replay_tape.proofs.plans.first_slots.Given as goal

abbrev pub invariant-loop-p : goal.invariant-loop-p
invariant-loop-p l = SlotsTo l.initial.looks l.p l.looks
