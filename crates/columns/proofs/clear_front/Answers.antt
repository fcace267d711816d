-- `columns::clear_front` meets its contract: the column's front is lent, and comes back as zeros. Assumes nothing.
use native.Mathlib.Omega.{arith}
use Rattle.columns.proofs.Area.Lent.{lent_front}
use Rattle.columns.proofs.clear_front.Goals as goal

pub returns : goal.returns
returns c = lent_front _ _ _ _ _ _ (omega arith) (c.fill.ensures.after (λ y e. e))
