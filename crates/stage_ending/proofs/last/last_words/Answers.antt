-- `stage_ending::last::last_words` meets its contract: nothing is written or realised unless all fits. Assumes nothing.
use Rattle.stage_ending.proofs.Laws.Lasted.{last_none, write_at, realise_at, last_more}
use Rattle.stage_ending.proofs.last.last_words.Goals as goal

pub returns-then-room-spent : goal.returns-then-room-spent
returns-then-room-spent c = last_none c.requires c.collect-k.ensures c.if-room-spent.true

pub realise_all-requires : goal.realise_all-requires
realise_all-requires c = realise_at c.requires c.collect-k.ensures c.if-room-spent.false (c.write.ensures.all _ (write_at c.requires c.collect-k.ensures c.if-room-spent.false))

pub returns : goal.returns
returns c = last_more c.requires c.collect-k.ensures c.if-room-spent.false (c.write.ensures.all _ (write_at c.requires c.collect-k.ensures c.if-room-spent.false)) c.realise_all.ensures
