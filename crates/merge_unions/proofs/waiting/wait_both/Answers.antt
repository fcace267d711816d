-- `merge_unions::waiting::wait_both` meets its contract: the first list's pins, then the second's. Assumes nothing.
use Rattle.merge_unions.proofs.Laws.Waiting.{both_first, both_second, both_wait}
use Rattle.merge_unions.proofs.waiting.wait_both.Goals as goal

pub wait_part-n-requires : goal.wait_part-n-requires
wait_part-n-requires c = both_first c.requires

pub wait_part-requires : goal.wait_part-requires
wait_part-requires c = both_second c.requires c.wait_part-n.ensures

pub returns : goal.returns
returns c = both_wait c.requires c.wait_part-n.ensures c.wait_part.ensures
