-- `graph_loops::all_rise` meets its contract. Assumes nothing.
use Prim.Native.Nat.{ℕ, ◌≤◌, ◌<◌}
use mathlib.Core.Path.{◌≡◌}
use Rattle.rules.specs.Graph.{pin_count}
use Rattle.graph_loops.specs.Marks.{Rises}
use Rattle.graph_loops.proofs.all_rise.Given as goal

abbrev pub invariant-loop-p : goal.invariant-loop-p
invariant-loop-p l = (l.pins ≡ pin_count l.gates) × (l.p ≤ l.pins) × ((q : ℕ) → q < l.p → Rises l.gates l.low 0 q)
