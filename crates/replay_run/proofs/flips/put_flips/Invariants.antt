-- `replay_run::flips::put_flips` meets its contract: those before `at` have theirs. Assumes nothing.
use mathlib.Core.Path.{◌≡◌}
use Rattle.replay_run.proofs.Laws.Flips.{FlipsTo}
use Rattle.replay_run.proofs.flips.put_flips.Given as goal

abbrev pub invariant-loop-at : goal.invariant-loop-at
invariant-loop-at l = (l.at-iterator.records.now ≡ l.records) × FlipsTo l.records l.initial.flips l.at-iterator.at l.j l.n l.flips
