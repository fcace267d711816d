-- `plan_check::stages::first_place` meets its contract. Assumes nothing.
use Rattle.plan_check.proofs.Laws.Stages.{Checking}
use Prim.Native.Nat.{◌<◌}
use lib.ListN.{length}
use Rattle.rules.specs.Graph.{graph_of}
use Rattle.plan_check.proofs.stages.first_place.Given as goal

abbrev pub invariant-loop-k : goal.invariant-loop-k
invariant-loop-k l = (length l.words < 18446744073709551616) × Checking l.height.0 (graph_of l.gates) l.given l.plan l.words l.counts l.stages l.room l.k l.at l.from l.left l.looks l.written
