-- `replay_checks::counts::count` meets its contract. Assumes nothing.
use mathlib.Core.Path.{◌≡◌}
use Rattle.replay_checks.proofs.Laws.Counts.{CountTo}
use Rattle.replay_checks.proofs.counts.count.Given as goal

abbrev pub invariant-loop-at : goal.invariant-loop-at
invariant-loop-at l = (l.at-iterator.records.now ≡ l.records) × CountTo l.records l.at-iterator.at l.memories l.flips l.bits
