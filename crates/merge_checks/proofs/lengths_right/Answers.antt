use Rattle.merge_checks.proofs.Laws.Sums.{taking_none, taking_short, taking_more, taking_done}
use Rattle.merge_checks.proofs.lengths_right.Goals as goal

pub loop-length-init : goal.loop-length-init
loop-length-init c = taking_none

pub returns-then-left-l : goal.returns-then-left-l
returns-then-left-l c = taking_short c.loop-length.invariant c.wide-l.ensures c.loop-length-test.true c.if-left-l.true

pub loop-length-preserved : goal.loop-length-preserved
loop-length-preserved c = taking_more c.loop-length.invariant c.wide-l.ensures c.loop-length-test.true c.if-left-l.false

pub returns : goal.returns
returns c = taking_done c.loop-length.invariant c.loop-length-test.false
