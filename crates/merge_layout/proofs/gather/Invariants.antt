-- `merge_layout::gather` meets its contract: the slots passed stand one after the other. Assumes nothing.
use Rattle.merge_layout.proofs.Laws.Gathers.{Gathering}
use Rattle.merge_layout.proofs.gather.Given as goal

abbrev pub invariant-loop-i : goal.invariant-loop-i
invariant-loop-i l = Gathering l.indices l.lengths l.order l.k l.initial.to l.to l.at l.i
