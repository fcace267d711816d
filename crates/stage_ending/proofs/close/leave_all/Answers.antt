use Rattle.stage_ending.proofs.Laws.Close.{leaving_none, leave_at, leaving_more}
use Rattle.stage_ending.proofs.close.leave_all.Goals as goal

pub loop-i-init : goal.loop-i-init
loop-i-init c = leaving_none c.requires

pub swap_out-left-requires : goal.swap_out-left-requires
swap_out-left-requires c = leave_at c.requires c.loop-i.invariant c.loop-i-test.true _ c.pin_at-p.ensures

pub loop-i-preserved : goal.loop-i-preserved
loop-i-preserved c = leaving_more c.requires c.loop-i.invariant c.loop-i-test.true _ c.pin_at-p.ensures c.swap_out-left.ensures
