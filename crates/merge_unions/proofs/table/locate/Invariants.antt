-- `merge_unions::table::locate` meets its contract: the records before an index are in the table. Assumes nothing.
use mathlib.Core.Path.{◌≡◌}
use Rattle.merge_unions.proofs.Laws.Table.{Locating}
use Rattle.merge_unions.proofs.table.locate.Given as goal

abbrev pub invariant-loop-at : goal.invariant-loop-at
invariant-loop-at l = (l.at-iterator.records.now ≡ l.records) × Locating l.table l.at-iterator.at l.n l.records l.initial.work l.work
