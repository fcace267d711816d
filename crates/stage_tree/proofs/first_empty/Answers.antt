use native.Mathlib.Omega.{arith}
use Rattle.stage_tree.proofs.Search.{first_here, first_on, first_end}
use Rattle.stage_tree.proofs.first_empty.Goals as goal

pub returns-then-stage-c : goal.returns-then-stage-c
returns-then-stage-c c = first_here _ _ _ c.requires _ c.loop-c.invariant.0 c.loop-c-test.true c.loop-c.invariant.2 c.if-stage-c.true

pub loop-c-preserved : goal.loop-c-preserved
loop-c-preserved c = (omega arith, omega arith, first_on _ _ _ c.requires _ c.loop-c-test.true c.loop-c.invariant.2 c.if-stage-c.false)

pub returns : goal.returns
returns c = first_end _ _ _ c.requires _ c.loop-c-test.false c.loop-c.invariant.2
