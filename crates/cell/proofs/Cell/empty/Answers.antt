-- `cell::Cell::empty` meets its contract. Assumes nothing.
use Rattle.rules.specs.Cells.{empty}
use borrow.Author.Rules.{rules}
use Rattle.cell.proofs.Cell.empty.Goals as goal

pub returns : goal.returns
unfolding empty
returns c = search rules
