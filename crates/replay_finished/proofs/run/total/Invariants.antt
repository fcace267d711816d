-- `replay_finished::run::total` meets its contract. Assumes nothing.
use Rattle.replay_finished.proofs.Laws.Totals.{Totalling}
use Rattle.replay_finished.proofs.run.total.Given as goal

abbrev pub invariant-loop-count : goal.invariant-loop-count
invariant-loop-count l = Totalling l.counts l.words l.count-index
