-- `job::steps::count_pins` meets its contract: a count, and so many. Assumes nothing.
use native.Mathlib.Omega.{arith}
use Rattle.rules.specs.Job.{read_pins}
use Rattle.job.proofs.Laws.Many.{counted_lost, counted_as}
use Rattle.job.proofs.steps.count_pins.Goals as goal

pub returns-in_err-head : goal.returns-in_err-head
returns-in_err-head c = rw c.from_residual.ensures (counted_lost read_pins c.in_err-head.ensures (omega arith))

pub returns : goal.returns
returns c = counted_as read_pins c.in_ok-head.ensures.0 c.in_ok-head.ensures.1 _ _ _ _ c.read_pins.ensures
