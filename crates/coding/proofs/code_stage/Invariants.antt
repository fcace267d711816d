-- `coding::code_stage` meets its contract: eight cells at a time, those before p are coded. Assumes nothing.
use Prim.Native.Nat.{◌-◌}
use Rattle.rules.specs.Graph.{graph_of}
use Rattle.coding.proofs.Laws.{Coming}
use Rattle.coding.proofs.code_stage.Given as goal

abbrev pub invariant-loop-p : goal.invariant-loop-p
invariant-loop-p l = Coming l.height.0 (graph_of l.gates) l.initial.cells l.p-end l.p l.cells

abbrev pub decreases-loop-p : goal.decreases-loop-p
decreases-loop-p l = l.p-end - l.p
