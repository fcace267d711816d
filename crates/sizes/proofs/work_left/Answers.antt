-- `sizes::work_left` meets its contract. Assumes nothing.
use Rattle.sizes.proofs.Rooms.{work_taken}
use Rattle.sizes.proofs.work_left.Goals as goal

pub returns : goal.returns
returns c = rw (c.take_eights.ensures, c.take_eights-third.ensures, c.take_eights-second.ensures, c.take_eights-first.ensures) (work_taken _ _ _)
