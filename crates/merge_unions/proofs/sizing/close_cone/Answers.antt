-- `merge_unions::sizing::close_cone` meets its contract: lists and marks are taken back. Assumes nothing.
use Rattle.merge_unions.proofs.Laws.Sizing.{close_back, close_unmark, closed}
use Rattle.merge_unions.proofs.sizing.close_cone.Goals as goal

pub take_back-requires : goal.take_back-requires
take_back-requires c = close_back c.requires

pub unmark_given-requires : goal.unmark_given-requires
unmark_given-requires c = close_unmark c.requires c.take_back.ensures

pub returns : goal.returns
returns c = closed c.requires c.take_back.ensures c.unmark_given.ensures
