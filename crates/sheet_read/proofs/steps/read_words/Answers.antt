use native.Mathlib.Omega.{arith}
use Rattle.job.proofs.Laws.Many.{going_none, going_more, going_lost, going_done}
use Rattle.sheet_read.specs.Steps.{words_read}
use Rattle.sheet_read.proofs.Laws.Steps.{words_many, words_at_lem}
use Rattle.sheet_read.proofs.steps.read_words.Goals as goal

pub loop-i-init : goal.loop-i-init
loop-i-init c = going_none c.requires.inside

pub read_word-requires : goal.read_word-requires
read_word-requires c = words_at_lem c.loop-i.invariant c.requires

pub returns-in_err-step : goal.returns-in_err-step
returns-in_err-step c = rw c.from_residual.ensures (going_lost c.loop-i.invariant c.loop-i-test.true c.in_err-step.ensures (omega arith) (words_read c.args.height c.args.n) (words_many c.args.height c.args.n))

pub loop-i-preserved : goal.loop-i-preserved
loop-i-preserved c = going_more c.loop-i.invariant c.loop-i-test.true c.in_ok-step.ensures.0 c.in_ok-step.ensures.1

pub returns : goal.returns
returns c = (going_done c.loop-i.invariant c.loop-i-test.false (words_read c.args.height c.args.n) (words_many c.args.height c.args.n), c.loop-i.invariant.inside)
