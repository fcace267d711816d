-- `graph_loops::reach_more` meets its contract. Assumes nothing.
use mathlib.Core.Path.{◌≡◌}
use Prim.Native.Nat.{◌≤◌}
use Rattle.rules.specs.Graph.{pin_count}
use Rattle.graph_loops.specs.Marks.{Spread}
use Rattle.graph_loops.proofs.reach_more.Given as goal

abbrev pub invariant-loop-p : goal.invariant-loop-p
invariant-loop-p l = Spread l.gates l.p l.initial.seen l.seen l.any × (l.pins ≡ pin_count l.gates) × (l.p ≤ l.pins)
