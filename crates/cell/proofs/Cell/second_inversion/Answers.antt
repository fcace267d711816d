-- `cell::Cell::second_inversion` meets its contract. Assumes nothing.
use Rattle.rules.specs.Coded.{second_inversion}
use borrow.Author.Rules.{rules}
use Rattle.cell.proofs.Cell.second_inversion.Goals as goal

pub returns : goal.returns
unfolding second_inversion
returns c = search rules
