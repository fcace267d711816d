-- `stage_levels::start` meets its contract: the waiting pins from i on are still to be raised. Assumes nothing.
use Prim.Native.Nat.{◌≤◌}
use Rattle.stage_levels.proofs.Laws.Lifting.{Raised}
use Rattle.stage_levels.proofs.start.Given as goal

abbrev pub invariant-loop-i : goal.invariant-loop-i
invariant-loop-i l = Raised l.m l.n l.i l.initial.work l.work × (l.i ≤ l.n)
