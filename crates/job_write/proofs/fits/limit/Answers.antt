-- `job_write::fits::limit` meets its contract. Assumes nothing.
use Rattle.job_write.proofs.Laws.Fits.{limit_is, limit_other}
use Rattle.job_write.proofs.fits.limit.Goals as goal

pub returns-then-kind-eq4 : goal.returns-then-kind-eq4
returns-then-kind-eq4 c = limit_is c.args.kind c.if-kind-eq4.true

pub returns-else-kind-eq4 : goal.returns-else-kind-eq4
returns-else-kind-eq4 c = limit_other c.args.kind c.if-kind-eq4.false
