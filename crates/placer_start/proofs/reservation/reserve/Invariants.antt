-- `placer_start::reservation::reserve` meets its contract: the records before an index are counted, and pass no limit. Assumes nothing.
use mathlib.Core.Path.{◌≡◌}
use Rattle.placer_start.proofs.Laws.Reserving.{Reserving}
use Rattle.placer_start.proofs.reservation.reserve.Given as goal

abbrev pub invariant-loop-at : goal.invariant-loop-at
invariant-loop-at l = (l.at-iterator.records.now ≡ l.records) × Reserving l.m l.limit l.at-iterator.at l.count l.records l.initial.work l.work
