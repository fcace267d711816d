-- `reservation_count::walks::sum_all` meets its contract. Assumes nothing.
use Rattle.reservation_count.proofs.Laws.Walks.{Summing}
use Rattle.reservation_count.proofs.walks.sum_all.Given as goal

abbrev pub invariant-loop-p : goal.invariant-loop-p
invariant-loop-p l = Summing l.records l.heads l.links l.initial.stamps l.p l.d l.stamps
