-- `mend_list::count_changes` meets its contract. Assumes nothing.
use Rattle.mend_list.proofs.Laws.{CountedTo}
use Rattle.mend_list.proofs.count_changes.Given as goal

abbrev pub invariant-loop-i : goal.invariant-loop-i
invariant-loop-i l = CountedTo l.old l.new l.i l.n
