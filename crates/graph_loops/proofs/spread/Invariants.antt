-- `graph_loops::spread` meets its contract. Assumes nothing.
use Rattle.graph_loops.specs.Marks.{zeros, Under}
use Rattle.graph_loops.proofs.spread.Given as goal

abbrev pub invariant-loop : goal.invariant-loop
invariant-loop l = Under l.gates l.pin.0 l.seen

abbrev pub decreases-loop : goal.decreases-loop
decreases-loop l = zeros l.seen
