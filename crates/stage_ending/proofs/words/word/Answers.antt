-- `stage_ending::words::word` meets its contract: a word that is there has a place. Assumes nothing.
use mathlib.Core.Path.{sym, ◌∙◌}
use native.Mathlib.Omega.{arith}
use Rattle.stage_ending.proofs.Laws.Words.{few, word_old, word_new}
use Rattle.stage_ending.proofs.words.word.Goals as goal

pub returns-then-tail_get-ne0 : goal.returns-then-tail_get-ne0
returns-then-tail_get-ne0 c = record { all = λ ws A. word_old A (λ e. c.if-tail_get-ne0.true (c.tail_get.ensures ∙ e)) }

pub overflow_cast-n : goal.overflow_cast-n
overflow_cast-n c = omega (arith, few c.requires.at)

pub returns : goal.returns
returns c = record { all = λ ws A. word_new A (sym c.tail_get.ensures ∙ c.if-tail_get-ne0.false) _ c.tail_set.ensures }
