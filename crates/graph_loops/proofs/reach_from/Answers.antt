-- `graph_loops::reach_from` meets its contract. Assumes nothing.
use Rattle.graph_loops.proofs.Laws.Reaching.{follows_not, follows_so}
use Rattle.graph_loops.proofs.reach_from.Goals as goal

pub returns-then-seen-index-eq0 : goal.returns-then-seen-index-eq0
returns-then-seen-index-eq0 c = follows_not _ _ _ _ c.index.ensures c.if-seen-index-eq0.true

pub returns : goal.returns
returns c = follows_so _ _ _ _ _ _ c.index.ensures c.if-seen-index-eq0.false c.reach.ensures
