-- `replay_run::slots::read_words` meets its contract: words from the i-th on are read. Assumes nothing.
use Rattle.replay_run.proofs.Laws.Slots.{WordsTo}
use Rattle.replay_run.proofs.slots.read_words.Given as goal

abbrev pub invariant-loop-i : goal.invariant-loop-i
invariant-loop-i l = WordsTo l.cells l.slots l.words l.initial.reads l.i l.reads
