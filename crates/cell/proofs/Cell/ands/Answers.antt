-- `cell::Cell::ands` meets its contract. Assumes nothing.
use Rattle.rules.specs.Coded.{ands}
use borrow.Author.Rules.{rules}
use Rattle.cell.proofs.Cell.ands.Goals as goal

pub returns : goal.returns
unfolding ands
returns c = search rules
