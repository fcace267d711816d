-- `columns::fill_tail` meets its contract: the tail's front is lent, and comes back as v. Assumes nothing.
use native.Mathlib.Omega.{arith}
use Rattle.columns.proofs.Area.Lent.{lent_tail}
use Rattle.columns.proofs.fill_tail.Goals as goal

pub returns : goal.returns
returns c = lent_tail _ _ _ _ _ (omega arith) (c.fill.ensures.after (λ y e. e))
