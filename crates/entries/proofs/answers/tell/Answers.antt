use native.Mathlib.Omega.{arith}
use Rattle.entries.proofs.Laws.Entry.{told_short, telling_more, telling_done}
use Rattle.entries.proofs.answers.tell.Goals as goal

pub returns-then-answer-n : goal.returns-then-answer-n
returns-then-answer-n c = told_short _ _ c.if-answer-n.true

pub loop-i-preserved : goal.loop-i-preserved
loop-i-preserved c = telling_more (omega (arith, c.if-answer-n.false)) c.loop-i.invariant c.loop-i-test.true

pub returns : goal.returns
returns c = telling_done (omega (arith, c.if-answer-n.false)) c.loop-i.invariant c.loop-i-test.false
