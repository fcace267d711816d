-- `stage_ending::words::write_one` meets its contract: a word without a place is passed over. Assumes nothing.
use mathlib.Core.Path.{refl}
use Rattle.stage_ending.proofs.Laws.Writing.{one_some}
use Rattle.stage_ending.proofs.words.write_one.Goals as goal

pub returns : goal.returns
returns c = one_some c.requires _ c.tail_get-k.ensures c.if-k-eq0.false _ _ refl c.tail_set.ensures
