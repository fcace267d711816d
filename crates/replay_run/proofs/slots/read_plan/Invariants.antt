-- `replay_run::slots::read_plan` meets its contract: stages from the k-th on are read. Assumes nothing.
use Rattle.replay_run.proofs.Laws.Slots.{PlanTo}
use Rattle.replay_run.proofs.slots.read_plan.Given as goal

abbrev pub invariant-loop-k : goal.invariant-loop-k
invariant-loop-k l = PlanTo l.size l.plan l.slots l.words l.counts l.initial.reads l.k l.at l.stop l.reads
