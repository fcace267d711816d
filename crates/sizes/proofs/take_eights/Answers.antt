-- `sizes::take_eights` meets its contract. Assumes nothing.
use Rattle.sizes.proofs.Rooms.{eights_there, eights_short, short_less}
use Rattle.sizes.proofs.take_eights.Goals as goal

pub returns-in_err-n : goal.returns-in_err-n
returns-in_err-n c = rw (c.from_residual.ensures, c.in_err-n.was) (short_less _)

pub returns-then-count-n : goal.returns-then-count-n
returns-then-count-n c = rw c.in_ok-n.was (eights_there _ _ c.if-count-n.true)

pub returns-else-count-n : goal.returns-else-count-n
returns-else-count-n c = rw c.in_ok-n.was (eights_short _ _ c.if-count-n.false)
