-- `coding::code_part` meets its contract: the cells before p are coded. Assumes nothing.
use Prim.Native.Nat.{◌≤◌}
use mathlib.Core.Path.{◌≡◌}
use Rattle.rules.specs.Graph.{graph_of}
use Rattle.rules.specs.Inside.Some.{Every}
use Rattle.coding.specs.Stages.{PartAt, coded_to}
use Rattle.coding.proofs.code_part.Given as goal

abbrev pub invariant-loop-p : goal.invariant-loop-p
invariant-loop-p l = Every (λ pl. PartAt l.height.0 (graph_of l.gates) l.from l.to l.initial.cells pl) (λ pl. (l.p ≤ l.to) × (l.cells ≡ coded_to l.height.0 (graph_of l.gates) pl l.p))
