-- `try_trees::try_example` is safe: the example's areas stand for its context. Assumes nothing.
use Rattle.try_trees.proofs.Example.{begins}
use Rattle.try_trees.proofs.try_example.Goals as goal

pub there_and_back-requires : goal.there_and_back-requires
there_and_back-requires g c = begins c.requires _ _ _ c.row_at-w.ensures (c.fill.ensures.after (λ y e. e)) c.begin.ensures
