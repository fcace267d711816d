-- `stage_needed::unmark` meets its contract: the needed pins from i on are still marked. Assumes nothing.
use Prim.Native.Nat.{◌≤◌}
use lib.ListN.{drop}
use Rattle.columns.specs.Fields.{NEEDED}
use Rattle.columns.specs.Lists.{list}
use Rattle.stage_needed.specs.Needed.{Unmarked}
use Rattle.stage_needed.proofs.unmark.Given as goal

abbrev pub invariant-loop-i : goal.invariant-loop-i
invariant-loop-i l = Unmarked l.m (drop l.i (list NEEDED l.m l.n l.initial.work)) l.initial.work l.work × (l.i ≤ l.n)
