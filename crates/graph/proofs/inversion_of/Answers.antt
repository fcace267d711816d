-- `graph::inversion_of` meets its contract. Assumes nothing.
use Rattle.rules.specs.Graph.{inversion_of}
use borrow.Author.Rules.{rules}
use Rattle.graph.proofs.inversion_of.Goals as goal

pub returns : goal.returns
unfolding inversion_of
returns c = search rules
