-- `stage_needed::collect` meets its contract: the pins from i on have yet to ask. In a part what held of the pins before it holds of those before i. Assumes nothing.
use Prim.Native.Nat.{ℕ, ◌≤◌, ◌-◌}
use mathlib.Core.Path.{◌≡◌}
use mathlib.Core.List.{List}
use lib.ListN.{length}
use Rattle.stage_walk.specs.Stands.{EveryPlan}
use Rattle.stage_needed.specs.Needed.{CountAt, Collecting}
use Rattle.stage_needed.proofs.collect.Given as goal

abbrev pub invariant-loop-i : goal.invariant-loop-i
invariant-loop-i l =
    ((w : List ℕ) → EveryPlan (λ C pl. CountAt C pl l.m l.n l.f l.k l.gates w) (λ C pl. Collecting C pl l.m l.f l.k l.from w l.initial.work l.initial.r)
    → EveryPlan (λ C pl. CountAt C pl l.m l.n l.f l.k l.gates w) (λ C pl. Collecting C pl l.m l.f l.k l.i w l.work l.r))
    × (l.i ≤ l.to)
    × (length l.work ≡ length l.initial.work)

abbrev pub invariant-loop-from : goal.invariant-loop-from
invariant-loop-from l = EveryPlan (λ C pl. CountAt C pl l.m l.n l.f l.k l.gates l.initial.work) (λ C pl. Collecting C pl l.m l.f l.k l.from l.initial.work l.work l.r) × (l.from ≤ l.k) ×
    (length l.work ≡ length l.initial.work)

abbrev pub decreases-loop-from : goal.decreases-loop-from
decreases-loop-from l = l.k - l.from
