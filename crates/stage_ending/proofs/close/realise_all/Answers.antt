use Rattle.stage_ending.proofs.Laws.Close.{realising_none, realise_at, realising_more}
use Rattle.stage_ending.proofs.close.realise_all.Goals as goal

pub loop-i-init : goal.loop-i-init
loop-i-init c = realising_none c.requires

pub realise-real-requires : goal.realise-real-requires
realise-real-requires c = realise_at c.requires c.loop-i.invariant c.loop-i-test.true _ c.pin_at-p.ensures

pub loop-i-preserved : goal.loop-i-preserved
loop-i-preserved c = realising_more c.requires c.loop-i.invariant c.loop-i-test.true _ c.pin_at-p.ensures c.realise-real.ensures
