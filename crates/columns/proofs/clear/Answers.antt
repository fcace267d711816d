-- `columns::clear` meets its contract: the part before `size` is lent, and comes back as zeros. Assumes nothing.
use Prim.Native.Nat.{◌-◌}
use native.Mathlib.Omega.{arith}
use Rattle.columns.proofs.Area.Lent.{lent_fill}
use Rattle.columns.proofs.clear.Goals as goal

pub returns : goal.returns
returns c = let a = c.args in lent_fill (a.size - 0) a.size 0 a.work.now _ (omega arith) (omega arith) (c.fill.ensures.after (λ y e. e))
