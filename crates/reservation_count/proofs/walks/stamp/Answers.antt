-- `reservation_count::walks::stamp` meets its contract. Assumes nothing.
use Rattle.reservation_count.proofs.Laws.Walks.{stamped}
use Rattle.reservation_count.proofs.walks.stamp.Goals as goal

pub returns : goal.returns
returns c = stamped _ _ _ _ c.from.ensures
