-- `job::steps::count_given` meets its contract: a count, and so many. Assumes nothing.
use native.Mathlib.Omega.{arith}
use Rattle.rules.specs.Job.{fields}
use Rattle.job.proofs.Laws.Many.{counted_lost, counted_as}
use Rattle.job.proofs.steps.count_given.Goals as goal

pub returns-in_err-head : goal.returns-in_err-head
returns-in_err-head c = rw c.from_residual.ensures (counted_lost (λ n. fields n 16) c.in_err-head.ensures (omega arith))

pub returns : goal.returns
returns c = counted_as (λ n. fields n 16) c.in_ok-head.ensures.0 c.in_ok-head.ensures.1 _ _ _ _ c.read_fields.ensures
