-- `replay_checks::counts::more_if` meets its contract. Assumes nothing.
use Rattle.replay_checks.proofs.Laws.Counts.{one_if_lem, none_if}
use Rattle.replay_checks.proofs.counts.more_if.Goals as goal

pub returns-then-kind-asked : goal.returns-then-kind-asked
returns-then-kind-asked c = one_if_lem _ _ _ c.if-kind-asked.true

pub returns-else-kind-asked : goal.returns-else-kind-asked
returns-else-kind-asked c = none_if _ _ _ c.if-kind-asked.false
