use native.Mathlib.Omega.{arith}
use Rattle.rules.specs.Job.{read_pins}
use Rattle.job.proofs.Laws.Many.{pins_many, going_none, going_more, going_lost, going_done}
use Rattle.job.proofs.steps.read_pins.Goals as goal

pub loop-init : goal.loop-init
loop-init c = going_none c.requires.inside

pub returns-in_err-step : goal.returns-in_err-step
returns-in_err-step c = let a = c.args in rw c.from_residual.ensures (going_lost c.loop.invariant c.loop-test.true c.in_err-step.ensures (omega arith) (read_pins a.n) (pins_many a.n))

pub loop-preserved : goal.loop-preserved
loop-preserved c = going_more c.loop.invariant c.loop-test.true c.in_ok-step.ensures.0 c.in_ok-step.ensures.1

pub returns : goal.returns
returns c = let a = c.args in (going_done c.loop.invariant c.loop-test.false (read_pins a.n) (pins_many a.n), c.loop.invariant.inside)
