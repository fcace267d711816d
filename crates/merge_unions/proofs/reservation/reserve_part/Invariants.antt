-- `merge_unions::reservation::reserve_part` meets its contract: the first i names are counted, and pass no limit. Assumes nothing.
use Rattle.rules.specs.Inside.Some.{Every}
use Rattle.merge_unions.specs.Reserving.{PartAt}
use Rattle.merge_unions.proofs.Laws.Reserving.{Counting}
use Rattle.merge_unions.proofs.reservation.reserve_part.Given as goal

abbrev pub invariant-loop-i : goal.invariant-loop-i
invariant-loop-i l = Every (λ xs. PartAt l.m l.table l.limit l.before l.initial.c xs l.records l.names l.initial.work) (λ xs. Counting l.m l.limit l.before l.i l.c xs l.records l.names l.initial.work l.work)
