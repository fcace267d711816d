use native.Mathlib.Omega.{arith}
use Rattle.replay_finished.proofs.Laws.Totals.{totalling_more, totalling_fits, totalling_done}
use Rattle.replay_finished.proofs.run.total.Goals as goal

pub loop-count-init : goal.loop-count-init
loop-count-init c = record { upto = omega arith; same = omega arith }

pub overflow_add-words : goal.overflow_add-words
overflow_add-words c = omega (arith, totalling_fits c.loop-count.invariant c.loop-count-test.true _ c.wide-words.ensures, c.requires)

pub loop-count-preserved : goal.loop-count-preserved
loop-count-preserved c = totalling_more c.loop-count.invariant c.loop-count-test.true _ c.wide-words.ensures

pub returns : goal.returns
returns c = totalling_done c.loop-count.invariant c.loop-count-test.false
