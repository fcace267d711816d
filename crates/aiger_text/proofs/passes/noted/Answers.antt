-- `aiger_text::passes::noted` meets its contract. Assumes nothing.
use Rattle.aiger_text.specs.Passes.{noted}
use Rattle.aiger_text.proofs.passes.noted.Goals as goal

pub returns-then-good : goal.returns-then-good
unfolding noted
returns-then-good c = rw c.if-good.true

pub returns-else-good : goal.returns-else-good
unfolding noted
returns-else-good c = rw c.if-good.false c.min.ensures
