-- `merge_layout::total` meets its contract. Assumes nothing.
use Rattle.merge_layout.proofs.Laws.Gathers.{Totalling}
use Rattle.merge_layout.proofs.total.Given as goal

abbrev pub invariant-loop-i : goal.invariant-loop-i
invariant-loop-i l = Totalling l.n l.f l.k l.own l.sum l.i
