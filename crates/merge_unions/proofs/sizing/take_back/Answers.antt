-- `merge_unions::sizing::take_back` meets its contract: the marks along the order, then the places along the waiting list. Assumes nothing.
use Rattle.merge_unions.proofs.Laws.Sizing.{back_listed, back_waiting, back}
use Rattle.merge_unions.proofs.sizing.take_back.Goals as goal

pub clear_along-requires : goal.clear_along-requires
clear_along-requires c = back_listed c.requires

pub clear_along-requires-2 : goal.clear_along-requires-2
clear_along-requires-2 c = back_waiting c.requires c.clear_along.ensures

pub returns : goal.returns
returns c = back c.requires c.clear_along.ensures c.clear_along-2.ensures
