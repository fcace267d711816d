-- `merge_trials::join` meets its contract: the groups, then the numbers. Assumes nothing.
use Rattle.merge_trials.proofs.Laws.Trials.{join_take, joins}
use Rattle.merge_trials.proofs.join.Goals as goal

pub take_in-requires : goal.take_in-requires
take_in-requires c = join_take c.requires

pub returns : goal.returns
returns c = joins c.requires c.take_in.new.spare c.take_in.auto.spare c.take_in.ensures.taken c.store_union.ensures
