use Rattle.plan_check.proofs.Laws.Ends.{pins_none, pins_zero, pins_written, pins_missing, pins_done}
use Rattle.plan_check.proofs.ends.record_written.Goals as goal
use Rattle.plan_check.proofs.ends.record_written.Goals.{else-index-ne0-via-then-index-ne0+else-not-has_mark, else-index-ne0-via-else-index-ne0}

pub loop-i-init : goal.loop-i-init
loop-i-init c = pins_none _ _ _ c.requires _ c.size_at-size.ensures

pub returns-then-not-has_mark : goal.returns-then-not-has_mark
returns-then-not-has_mark c = pins_missing _ _ _ c.requires _ c.size_at-size.ensures _ c.loop-i.invariant c.loop-i-test.true _ _ c.endpoint-pin.ensures c.index.ensures _ c.has_mark.ensures c.if-index-ne0.true c.if-not-has_mark.true

pub loop-i-preserved : goal.loop-i-preserved
loop-i-preserved c = elim c.else-index-ne0.branch [
  | else-index-ne0-via-then-index-ne0+else-not-has_mark w ↦
      pins_written _ _ _ c.requires _ c.size_at-size.ensures _ c.loop-i.invariant c.loop-i-test.true _ _ c.endpoint-pin.ensures c.index.ensures _ w.has_mark.ensures w.if-not-has_mark.false
  | else-index-ne0-via-else-index-ne0 w ↦ pins_zero _ _ _ c.requires _ c.size_at-size.ensures _ c.loop-i.invariant c.loop-i-test.true _ _ c.endpoint-pin.ensures c.index.ensures w.if-index-ne0.false
]

pub returns : goal.returns
returns c = pins_done _ _ _ c.requires _ c.size_at-size.ensures _ c.loop-i.invariant c.loop-i-test.false
