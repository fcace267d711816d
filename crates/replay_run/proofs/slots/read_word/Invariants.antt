-- `replay_run::slots::read_word` meets its contract. Assumes nothing.
use Rattle.replay_run.proofs.Laws.Slots.{WordTo}
use Rattle.replay_run.proofs.slots.read_word.Given as goal

abbrev pub invariant-loop-p : goal.invariant-loop-p
invariant-loop-p l = WordTo l.cells l.slots l.at l.p l.initial.reads l.reads
