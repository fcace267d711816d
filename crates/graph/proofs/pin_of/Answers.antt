-- `graph::pin_of` meets its contract. Assumes nothing.
use Rattle.rules.specs.Graph.{pin_of}
use borrow.Author.Rules.{rules}
use Rattle.graph.proofs.pin_of.Goals as goal

pub returns : goal.returns
unfolding pin_of
returns c = search rules
