-- `stage_levels::lower` meets its contract: the first i pins are still to hand theirs down. Assumes nothing.
use mathlib.Core.Path.{◌≡◌}
use Prim.Native.Nat.{◌≤◌}
use lib.ListN.{length}
use Rattle.rules.specs.Inside.Some.{Every}
use Rattle.stage_levels.specs.Levels.{LowerAt, Lowered}
use Rattle.stage_levels.proofs.lower.Given as goal

abbrev pub invariant-loop-i : goal.invariant-loop-i
invariant-loop-i l = Every (λ C. LowerAt C l.m l.k l.gates l.initial.work) (λ C. Lowered C l.m l.k l.i l.initial.work l.work) × (l.i ≤ l.k) × (length l.work ≡ length l.initial.work)
