-- `graph_loops::unmark` meets its contract. Assumes nothing.
use Prim.Native.Nat.{◌≤◌}
use mathlib.Core.Path.{◌≡◌}
use lib.ListN.{length}
use Rattle.rules.specs.Graph.{pin_count}
use Rattle.graph_loops.specs.Marks.{Kept}
use Rattle.graph_loops.proofs.unmark.Given as goal

abbrev pub invariant-loop-p : goal.invariant-loop-p
invariant-loop-p l = Kept l.gates l.marks × (l.pins ≡ pin_count l.gates) × (l.p ≤ l.pins) × (length l.marks ≡ length l.initial.marks)
