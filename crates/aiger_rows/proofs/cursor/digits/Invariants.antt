-- `aiger_rows::cursor::digits` meets its contract. Assumes nothing.
use Prim.Native.Nat.{◌≤◌}
use mathlib.Core.Path.{◌≡◌}
use lib.ListN.{drop}
use Rattle.aiger_form.specs.Text.{more_digits}
use Rattle.aiger_rows.specs.Cursor.{cap, capped_found}
use Rattle.aiger_rows.proofs.cursor.digits.Given as goal

abbrev pub invariant-loop-b : goal.invariant-loop-b
invariant-loop-b l = (l.v ≤ cap) × (capped_found (more_digits l.v (drop l.b-index l.word)) ≡ capped_found (more_digits 0 l.word))
