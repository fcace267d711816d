-- `graph_loops::search` meets its contract. Assumes nothing.
use Prim.Native.Nat.{ℕ, ◌≤◌, ◌<◌}
use mathlib.Core.Bool.{false}
use mathlib.Core.Path.{◌≡◌}
use Rattle.rules.specs.Graph.{graph_of, pin_count}
use Rattle.rules.specs.Loops.{on_loop}
use Rattle.graph_loops.proofs.search.Given as goal

abbrev pub invariant-loop-p : goal.invariant-loop-p
invariant-loop-p l = (l.pins ≡ pin_count l.gates) × (l.p ≤ l.pins) × ((q : ℕ) → q < l.p → on_loop (graph_of l.gates) q ≡ false)
