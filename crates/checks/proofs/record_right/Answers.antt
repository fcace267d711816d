use Rattle.checks.proofs.Laws.Turns.{pins_begin, pins_more, pins_wrong, pins_done}
use native.Mathlib.Omega.{arith}
use Rattle.checks.proofs.record_right.Goals as goal

pub loop-i-init : goal.loop-i-init
loop-i-init c = pins_begin _ _ _ _ c.requires c.size_at-size.ensures

pub returns-then-pins-index : goal.returns-then-pins-index
returns-then-pins-index c = pins_wrong _ _ _ _ _ c.loop-i.invariant c.endpoint.ensures c.index.ensures c.loop-i-test.true c.if-pins-index.true

pub loop-i-smaller : goal.loop-i-smaller
loop-i-smaller c = omega arith

pub loop-i-preserved : goal.loop-i-preserved
loop-i-preserved c = pins_more _ _ _ _ _ c.loop-i.invariant c.endpoint.ensures c.index.ensures c.loop-i-test.true c.if-pins-index.false

pub returns : goal.returns
returns c = pins_done _ _ _ _ _ c.loop-i.invariant c.loop-i-test.false
