use native.Mathlib.Omega.{arith}
use Rattle.stage_ending.proofs.Laws.Close.{swept_none, order_pin, retired_pin, swept_more}
use Rattle.stage_ending.proofs.close.retire_all.Goals as goal

pub loop-i-init : goal.loop-i-init
loop-i-init c = (swept_none, omega arith)

pub retire-requires : goal.retire-requires
retire-requires c = order_pin c.requires c.loop-i.invariant.0 c.loop-i-test.true _ c.pin_at-p.ensures

pub unlist-requires : goal.unlist-requires
unlist-requires c = retired_pin c.requires c.loop-i.invariant.0 c.loop-i-test.true _ c.pin_at-p.ensures c.retire.ensures

pub loop-i-preserved : goal.loop-i-preserved
loop-i-preserved c = (swept_more c.requires c.loop-i.invariant.0 c.loop-i-test.true _ c.pin_at-p.ensures c.retire.ensures c.unlist.ensures, omega arith)
