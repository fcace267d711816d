-- `placer_start::waiting::wait_all` meets its contract: the records before an index wait. Assumes nothing.
use mathlib.Core.Path.{◌≡◌}
use Rattle.placer_start.proofs.Laws.Waiting.{Gathering}
use Rattle.placer_start.proofs.waiting.wait_all.Given as goal

abbrev pub invariant-loop-at : goal.invariant-loop-at
invariant-loop-at l = (l.at-iterator.records.now ≡ l.records) × Gathering l.m l.at-iterator.at l.records l.initial.work l.work l.n
