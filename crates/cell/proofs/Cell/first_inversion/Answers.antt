-- `cell::Cell::first_inversion` meets its contract. Assumes nothing.
use Rattle.rules.specs.Coded.{first_inversion}
use borrow.Author.Rules.{rules}
use Rattle.cell.proofs.Cell.first_inversion.Goals as goal

pub returns : goal.returns
unfolding first_inversion
returns c = search rules
