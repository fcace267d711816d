-- `sizes::lent_sized` meets its contract. Assumes nothing.
use Rattle.rules.proofs.Bools.{no, yes}
use Rattle.sizes.proofs.Rooms.{plan_odd, words_few, counts_tested}
use Rattle.sizes.proofs.lent_sized.Goals as goal

pub returns-then-not-plan_sized : goal.returns-then-not-plan_sized
returns-then-not-plan_sized c = plan_odd _ _ _ _ (no c.plan_sized.ensures c.if-not-plan_sized.true-raw)

pub returns-then-words-word_limit : goal.returns-then-words-word_limit
returns-then-words-word_limit c = words_few _ _ _ _ (yes c.plan_sized.ensures c.if-not-plan_sized.false-raw) _ c.word_limit.ensures c.if-words-word_limit.true

pub returns : goal.returns
returns c = counts_tested _ _ _ _ (yes c.plan_sized.ensures c.if-not-plan_sized.false-raw) _ c.word_limit.ensures c.if-words-word_limit.false _ c.rooms.ensures
