use Rattle.job_write.proofs.Laws.Fits.{counting_none, counting_lost, counting_more, counting_done}
use Rattle.job_write.proofs.fits.count_groups.Goals as goal

pub loop-i-init : goal.loop-i-init
loop-i-init c = counting_none c.args.records.now

pub returns-in_err-i : goal.returns-in_err-i
returns-in_err-i c = rw c.from_residual.ensures (counting_lost c.loop-i.invariant c.in_err-i.ensures)

pub loop-i-preserved : goal.loop-i-preserved
loop-i-preserved c = counting_more c.loop-i.invariant c.in_ok-i.ensures

pub returns : goal.returns
returns c = counting_done c.loop-i.invariant c.loop-i-test.false
