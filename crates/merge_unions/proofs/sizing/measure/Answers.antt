-- `merge_unions::sizing::measure` meets its contract: the cone is extended, and what was added is taken back. Assumes nothing.
use Rattle.merge_unions.proofs.Laws.Cones.{measure_back, measures}
use Rattle.merge_unions.proofs.sizing.measure.Goals as goal

pub extend-with-requires : goal.extend-with-requires
extend-with-requires c = c.requires

pub take_back-requires : goal.take_back-requires
take_back-requires c = let s = c.requires in measure_back s.at (c.extend-with.ensures.all s.it s.at)

pub returns : goal.returns
returns c = record { all = λ x A. measures A (c.extend-with.ensures.all x A) c.take_back.ensures }
