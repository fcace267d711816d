-- `aiger_write::jobs::is_leaf_pin` meets its contract: the node, and whether the pin is one. Assumes nothing.
use native.Mathlib.Omega.{arith}
use mathlib.Core.Path.{◌∙◌}
use borrow.Author.Tests.{le-ltb}
use Rattle.rules.specs.Graph.{graph_of}
use Rattle.graph.specs.Values.{node_for}
use Rattle.graph.proofs.Gates.{graph_length}
use Rattle.aiger_write.proofs.Laws.Marks.{leaf_is, leaf_zero, leaf_gate}
use Rattle.aiger_write.proofs.jobs.is_leaf_pin.Goals as goal

pub returns-then-p-gt0 : goal.returns-then-p-gt0
unfolding node_for
returns-then-p-gt0 c = rw (c.index-p.ensures, c.pin_count.ensures, ← graph_length c.args.gates.now) (leaf_is (graph_of c.args.gates.now) c.args.pin.0 (omega (arith, c.index-p.ensures)) c.in-Leaf.ensures)

pub returns-else-p-gt0 : goal.returns-else-p-gt0
returns-else-p-gt0 c = rw c.index-p.ensures (le-ltb 0 c.args.pin.0 (omega (arith, c.index-p.ensures)) ∙ leaf_zero (graph_of c.args.gates.now) c.args.pin.0 (omega (arith, c.index-p.ensures)))

pub returns-in-Gate : goal.returns-in-Gate
unfolding node_for
returns-in-Gate c = leaf_gate (graph_of c.args.gates.now) c.args.pin.0 c.in-Gate.ensures
