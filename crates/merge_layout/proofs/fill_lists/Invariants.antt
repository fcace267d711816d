-- `merge_layout::fill_lists` meets its contract: the places passed hold their slot's length and stages. Assumes nothing.
use Rattle.merge_layout.proofs.Laws.Tables.{Tabling}
use Rattle.merge_layout.proofs.fill_lists.Given as goal

abbrev pub invariant-loop-i : goal.invariant-loop-i
invariant-loop-i l = Tabling l.lengths l.k l.initial.own l.own l.i
