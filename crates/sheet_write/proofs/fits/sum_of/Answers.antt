use native.Mathlib.Omega.{arith}
use Rattle.sheet_write.proofs.Laws.Fits.{summing_none, summing_more, summing_done}
use Rattle.sheet_write.proofs.fits.sum_of.Goals as goal

pub loop-c-init : goal.loop-c-init
loop-c-init c = summing_none

pub loop-c-preserved : goal.loop-c-preserved
loop-c-preserved c = let e = c.wide-total.ensures in rw e (summing_more c.loop-c.invariant c.loop-c-test.true (omega (arith, c.type_inv.counts c.loop-c.c-index)))

pub returns : goal.returns
returns c = summing_done c.loop-c.invariant c.loop-c-test.false
