-- `plan_check_stage::ending::words_right` meets its contract. Assumes nothing.
use Rattle.plan_check_stage.proofs.Laws.Ending.{words_few, words_all}
use Rattle.plan_check_stage.proofs.ending.words_right.Goals as goal

pub returns-then-words-count : goal.returns-then-words-count
returns-then-words-count c = words_few _ c.requires _ _ c.if-words-count.true

pub returns : goal.returns
returns c = words_all _ c.requires _ _ c.if-words-count.false _ c.word_limit.ensures _ c.all_below.ensures
