-- `depth::measure` meets its contract: cleared, walked, cleared again. Assumes nothing.
use Rattle.depth.proofs.Laws.Walks.{measure_walk}
use Rattle.depth.proofs.measure.Goals as goal

pub walk-d-requires : goal.walk-d-requires
walk-d-requires c = measure_walk c.requires c.pin_count-m.ensures (c.fill.ensures.after (λ y e. e))
