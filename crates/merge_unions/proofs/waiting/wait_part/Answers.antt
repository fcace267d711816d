use Rattle.merge_unions.proofs.Laws.Names.{name_there}
use Rattle.merge_unions.proofs.Laws.Waiting.{gathering_none, gathering_names, gathering_at, gathering_more, gathering_done}
use Rattle.merge_unions.proofs.waiting.wait_part.Goals as goal

pub loop-name-init : goal.loop-name-init
loop-name-init c = gathering_none c.requires

pub start_of-at-requires : goal.start_of-at-requires
start_of-at-requires c = name_there (gathering_names c.requires c.loop-name.invariant) c.loop-name-test.true

pub wait_record-k-requires : goal.wait_record-k-requires
wait_record-k-requires c = gathering_at c.requires c.loop-name.invariant c.loop-name-test.true c.start_of-at.ensures

pub loop-name-preserved : goal.loop-name-preserved
loop-name-preserved c = gathering_more c.requires c.loop-name.invariant c.loop-name-test.true c.start_of-at.ensures c.wait_record-k.ensures

pub shape_of-work : goal.shape_of-work
shape_of-work c = c.loop-name.invariant.frame.len

pub returns : goal.returns
returns c = gathering_done c.requires c.loop-name.invariant c.loop-name-test.false
