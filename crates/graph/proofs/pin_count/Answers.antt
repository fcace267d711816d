-- `graph::pin_count` meets its contract. Assumes nothing.
use Rattle.rules.specs.Graph.{pin_count}
use borrow.Author.Rules.{rules}
use Rattle.graph.proofs.pin_count.Goals as goal

pub returns : goal.returns
unfolding pin_count
returns c = search rules
