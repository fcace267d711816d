use native.Mathlib.Omega.{arith}
use Rattle.sheet_read.proofs.Laws.Stages.{stages_none, stage_asks, stages_lost, stages_more, stages_done}
use Rattle.sheet_read.proofs.stages.read_stages.Goals as goal

pub loop-i-init : goal.loop-i-init
loop-i-init c = stages_none c.requires _ _

pub read_stage-requires : goal.read_stage-requires
read_stage-requires c = stage_asks c.requires _ _ c.loop-i.invariant c.loop-i-test.true

pub returns-in_err-step : goal.returns-in_err-step
returns-in_err-step c = rw c.from_residual.ensures (stages_lost c.requires _ _ c.loop-i.invariant c.loop-i-test.true c.in_err-step.ensures (omega arith))

pub loop-i-preserved : goal.loop-i-preserved
loop-i-preserved c = stages_more c.requires _ _ c.loop-i.invariant c.loop-i-test.true c.in_ok-step.ensures.0 c.in_ok-step.ensures.1

pub returns : goal.returns
returns c = (stages_done c.requires _ _ c.loop-i.invariant c.loop-i-test.false, c.loop-i.invariant.inside)
