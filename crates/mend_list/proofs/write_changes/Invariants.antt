-- `mend_list::write_changes` meets its contract. Assumes nothing.
use Rattle.mend_list.proofs.Laws.{WrittenTo}
use Rattle.mend_list.proofs.write_changes.Given as goal

abbrev pub invariant-loop-i : goal.invariant-loop-i
invariant-loop-i l = WrittenTo l.height.0 l.old l.new l.initial.list l.i l.at l.list
