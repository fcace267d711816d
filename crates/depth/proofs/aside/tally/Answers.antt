-- `depth::aside::tally` meets its contract: cleared, counted, cleared again. Assumes nothing.
use Rattle.depth.proofs.Laws.Walks.{measure_walk}
use Rattle.depth.proofs.Laws.Aside.{reserve_at}
use Rattle.depth.proofs.aside.tally.Goals as goal

pub count_all-count-requires : goal.count_all-count-requires
count_all-count-requires c = reserve_at (measure_walk c.requires c.pin_count-m.ensures (c.fill.ensures.after (λ y e. e)))
