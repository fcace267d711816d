-- `replay_run::flips::put_flip` meets its contract. Assumes nothing.
use Rattle.replay_run.proofs.Laws.Flips.{flip_put, flip_none}
use Rattle.replay_run.proofs.flips.put_flip.Goals as goal

pub returns-then-kind-eq2 : goal.returns-then-kind-eq2
returns-then-kind-eq2 c = flip_put _ _ _ _ c.requires.n_in_bounds c.if-kind-eq2.true

pub returns-else-kind-eq2 : goal.returns-else-kind-eq2
returns-else-kind-eq2 c = flip_none _ _ _ _ c.if-kind-eq2.false
