-- `graph_loops::reach_along` meets its contract. Assumes nothing.
use mathlib.Core.Path.{◌≡◌}
use Prim.Native.Nat.{◌≤◌}
use Rattle.rules.specs.Graph.{pin_count}
use Rattle.graph_loops.specs.Marks.{Spread}
use Rattle.graph_loops.proofs.reach_along.Given as goal

abbrev pub invariant-loop-i : goal.invariant-loop-i
invariant-loop-i l = Spread l.gates 0 l.initial.seen l.seen l.any × (l.pins ≡ pin_count l.gates) × (l.i ≤ 65536)
