-- `aiger_rows::cursor::figures` meets its contract. Assumes nothing.
use Rattle.aiger_rows.specs.Cursor.{Figured}
use Rattle.aiger_rows.proofs.cursor.figures.Given as goal

abbrev pub invariant-loop-i : goal.invariant-loop-i
invariant-loop-i l = Figured l.bytes l.at l.i l.v
