use Prim.Native.Nat.{◌*◌}
use Rattle.rules.specs.Graph.{graph_of}
use Rattle.coding.proofs.Plans.{Reached}
use Rattle.coding.proofs.code_plan.Given as goal

-- `coding::code_plan` meets its contract: the first k stages are coded. Assumes nothing.
abbrev pub invariant-loop-k : goal.invariant-loop-k
invariant-loop-k l = Reached l.height.0 l.n (graph_of l.gates) l.initial.plan l.k (l.k * l.size) l.plan
