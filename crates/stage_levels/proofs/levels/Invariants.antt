-- `stage_levels::levels` meets its contract: the first i pins have their levels. Assumes nothing.
use mathlib.Core.Path.{◌≡◌}
use Prim.Native.Nat.{◌≤◌}
use lib.ListN.{length}
use Rattle.rules.specs.Inside.Some.{Every}
use Rattle.stage_levels.specs.Levels.{LevelsAt, Risen}
use Rattle.stage_levels.proofs.levels.Given as goal

abbrev pub invariant-loop-i : goal.invariant-loop-i
invariant-loop-i l = Every (λ C. LevelsAt C l.m l.k l.gates l.initial.work) (λ C. Risen C l.m l.i l.initial.work l.work l.top) × (l.i ≤ l.k) × (length l.work ≡ length l.initial.work)
