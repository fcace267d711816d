-- `cell::Cell::and_of` meets its contract. Assumes nothing.
use Rattle.rules.specs.Coded.{and_of}
use borrow.Author.Rules.{rules}
use Rattle.cell.proofs.Cell.and_of.Goals as goal

pub returns : goal.returns
unfolding and_of
returns c = search rules
