-- `mend::mend_in` meets its contract. Assumes nothing.
use Rattle.mend.proofs.Laws.{mends}
use Rattle.mend.proofs.mend_in.Goals as goal

pub returns : goal.returns
returns c = mends _ _ _ _ _ _ _ _ _ _ c.requires _ _ _ c.judge-answer.ensures c.judge-answer.new.made _ (c.fill.ensures.after (λ y e. e)) c.judge-answer.auto.made
