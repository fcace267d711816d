-- `depth::counted_size` meets its contract. Assumes nothing.
use Rattle.rules.specs.Checks.{work_size}
use borrow.Author.Rules.{rules}
use Rattle.depth.proofs.counted_size.Goals as goal

pub returns : goal.returns
unfolding work_size
returns c = search rules
