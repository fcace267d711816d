-- `merge_trials::accepted` meets its contract. Assumes nothing.
use Rattle.merge_trials.proofs.Laws.Answers.{refuses, exceeds}
use Rattle.merge_trials.proofs.accepted.Goals as goal

pub returns-else-union-cap : goal.returns-else-union-cap
returns-else-union-cap c = exceeds c.in-Ok.is c.if-union-cap.false

pub returns-in-Err : goal.returns-in-Err
returns-in-Err c = refuses c.in-Err.is
