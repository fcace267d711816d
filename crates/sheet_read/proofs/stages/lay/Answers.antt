use Rattle.sheet_read.proofs.Laws.Stages.{laid_none, laid_more, laid_length, laid_done}
use Rattle.sheet_read.proofs.stages.lay.Goals as goal

pub loop-i-init : goal.loop-i-init
loop-i-init c = laid_none

pub loop-i-preserved : goal.loop-i-preserved
loop-i-preserved c = laid_more c.loop-i.invariant c.loop-i-test.true c.store.ensures

pub shape_of-plan : goal.shape_of-plan
shape_of-plan c = laid_length c.loop-i.invariant

pub returns : goal.returns
returns c = laid_done c.loop-i.invariant c.loop-i-test.false
