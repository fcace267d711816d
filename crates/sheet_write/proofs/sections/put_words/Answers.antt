use Rattle.sheet_write.proofs.Laws.Sections.{words_none, words_more, words_done}
use Rattle.sheet_write.proofs.sections.put_words.Goals as goal

pub loop-w-init : goal.loop-w-init
loop-w-init c = words_none

pub loop-w-preserved : goal.loop-w-preserved
loop-w-preserved c = words_more c.loop-w.invariant c.loop-w-test.true c.put-at.ensures

pub returns : goal.returns
returns c = words_done c.loop-w.invariant c.loop-w-test.false
