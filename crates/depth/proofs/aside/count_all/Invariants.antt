-- `depth::aside::count_all` meets its contract: the records before an index are counted. Assumes nothing.
use mathlib.Core.Path.{◌≡◌}
use Rattle.placer_start.proofs.Laws.Reserving.{Reserving}
use Rattle.depth.proofs.aside.count_all.Given as goal

abbrev pub invariant-loop-at : goal.invariant-loop-at
invariant-loop-at l = (l.at-iterator.records.now ≡ l.records) × Reserving l.m 0 l.at-iterator.at l.count l.records l.initial.work l.work
