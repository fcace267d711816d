use Rattle.placer_start.proofs.Laws.Waiting.{listing_more, listing_done}
use Rattle.placer_start.proofs.waiting.wait_record.Goals as goal

pub loop-i-preserved : goal.loop-i-preserved
loop-i-preserved c = listing_more c.requires c.size_at-size.ensures c.loop-i.invariant c.loop-i-test.true _ c.endpoint.ensures c.wait_pin-k.ensures

pub returns : goal.returns
returns c = listing_done c.requires c.size_at-size.ensures c.loop-i.invariant c.loop-i-test.false
