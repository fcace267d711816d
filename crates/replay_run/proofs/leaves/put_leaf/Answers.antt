-- `replay_run::leaves::put_leaf` meets its contract. Assumes nothing.
use Rattle.replay_run.proofs.Laws.Leaves.{leaf_put, leaf_none}
use Rattle.replay_run.proofs.leaves.put_leaf.Goals as goal

pub returns-then-leaf : goal.returns-then-leaf
returns-then-leaf c = leaf_put _ _ _ _ c.requires.n_in_bounds c.if-leaf.true

pub returns-else-leaf : goal.returns-else-leaf
returns-else-leaf c = leaf_none _ _ _ _ c.if-leaf.false
