-- `explain_stages::tell` meets its contract: one stage more with its lines, until no pin waits or one is refused. Assumes nothing.
use mathlib.Core.Path.{◌≡◌}
use Prim.Native.Nat.{◌-◌}
use lib.ListN.{length}
use Rattle.rules.specs.Lists.{count}
use Rattle.rules.specs.Cells.{filled, row_at}
use Rattle.rules.specs.Inside.Some.{Every}
use Rattle.stage_tally.specs.Spending.{bound, Counted}
use Rattle.explain_stages.specs.Telling.{AllAt}
use Rattle.explain_stages.proofs.tell.Given as goal

abbrev pub invariant-loop-left : goal.invariant-loop-left
invariant-loop-left l = Every (λ C. AllAt C l.m l.height.0 (row_at l.height.0 1) l.rooms 0 0 l.n l.room 0 l.initial.list l.gates l.initial.plan l.initial.words l.initial.counts l.initial.work l.initial.list) (λ C. AllAt C l.m l.height.0 (row_at l.height.0 1) l.rooms l.k l.tally.spent l.left l.room l.lines l.initial.list l.gates l.plan l.words l.counts l.work l.list) × (length l.plan ≡ length l.initial.plan) × (length l.words ≡ length l.initial.words) × (length l.counts ≡ length l.initial.counts) × (length l.work ≡ length l.initial.work) × (length l.list ≡ length l.initial.list) × Counted l.tally × (bound l.tally ≡ l.room) × (l.cells ≡ count filled l.plan)

abbrev pub decreases-loop-left : goal.decreases-loop-left
decreases-loop-left l = l.rooms - l.k
