-- `plan_check::ends::all_written` meets its contract. Assumes nothing.
use mathlib.Core.Path.{◌≡◌}
use Rattle.plan_check.proofs.Laws.Ends.{EndsTo}
use Rattle.plan_check.proofs.ends.all_written.Given as goal

abbrev pub invariant-loop-at : goal.invariant-loop-at
invariant-loop-at l = (l.at-iterator.records.now ≡ l.records) × EndsTo l.records l.written l.at-iterator.at
