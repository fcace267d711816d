-- `aiger_rows::cursor::until` meets its contract. Assumes nothing.
use Prim.Native.Nat.{◌+◌}
use mathlib.Core.Path.{◌≡◌}
use lib.ListN.{drop}
use Rattle.aiger_rows.specs.Cursor.{until}
use Rattle.aiger_rows.proofs.cursor.until.Given as goal

abbrev pub invariant-loop-i : goal.invariant-loop-i
invariant-loop-i l = l.i + until l.e (drop l.i l.bytes) ≡ l.at + until l.e (drop l.at l.bytes)
