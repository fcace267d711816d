-- `aiger_rows::cursor::numbers` meets its contract. Assumes nothing.
use Prim.Native.Nat.{◌-◌}
use lib.ListN.{length}
use Rattle.aiger_rows.proofs.Laws.Cursor.{Going}
use Rattle.aiger_rows.proofs.cursor.numbers.Given as goal

abbrev pub invariant-loop-x : goal.invariant-loop-x
invariant-loop-x l = Going l.line l.at l.count l.values

abbrev pub decreases-loop-x : goal.decreases-loop-x
decreases-loop-x l = length l.line - l.at
