-- `mend_plan::mend_all` meets its contract. Assumes nothing.
use mathlib.Core.Path.{◌≡◌}
use lib.ListN.{length}
use Rattle.rules.specs.Graph.{graph_of}
use Rattle.mend_plan.proofs.Laws.{Reached}
use Rattle.mend_plan.proofs.mend_all.Given as goal

abbrev pub invariant-loop : goal.invariant-loop
invariant-loop l = Reached l.height.0 l.n (graph_of l.gates) l.initial.stop l.initial.plan l.counter l.at l.plan l.stop × (length l.levels ≡ length l.initial.levels) × (length l.fixed ≡ length l.initial.fixed)
