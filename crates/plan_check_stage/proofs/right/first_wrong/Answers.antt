use Rattle.plan_check_stage.proofs.Laws.Right.{wrong_none, wrong_here, wrong_more, wrong_done}
use Rattle.plan_check_stage.proofs.right.first_wrong.Goals as goal

pub loop-p-init : goal.loop-p-init
loop-p-init c = wrong_none _ _ _ _ _ _ c.requires

pub right_at-requires : goal.right_at-requires
right_at-requires c = record { stage = c.requires; one = c.loop-p.invariant.one; here = c.loop-p-test.true }

pub returns-then-not-right_at : goal.returns-then-not-right_at
returns-then-not-right_at c = wrong_here _ _ _ _ _ _ c.requires _ c.loop-p.invariant c.loop-p-test.true _ c.right_at.ensures c.if-not-right_at.true

pub loop-p-preserved : goal.loop-p-preserved
loop-p-preserved c = wrong_more _ _ _ _ _ _ c.requires _ c.loop-p.invariant c.loop-p-test.true _ c.right_at.ensures c.if-not-right_at.false

pub returns : goal.returns
returns c = wrong_done _ _ _ _ _ _ c.requires _ c.loop-p.invariant c.loop-p-test.false
