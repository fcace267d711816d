-- `job_write::fits::node_fits` meets its contract. Assumes nothing.
use Rattle.job_write.proofs.Laws.Fits.{node_mark, node_high, node_low}
use Rattle.job_write.proofs.fits.node_fits.Goals as goal

pub returns-then-a-eq-EMPTY : goal.returns-then-a-eq-EMPTY
returns-then-a-eq-EMPTY c = node_mark c.args.a c.args.b c.if-a-eq-EMPTY.true

pub returns-then-a-ge131072 : goal.returns-then-a-ge131072
returns-then-a-ge131072 c = node_high c.args.a c.args.b c.if-a-eq-EMPTY.false c.if-a-ge131072.true

pub returns : goal.returns
returns c = node_low c.args.a c.args.b c.if-a-eq-EMPTY.false c.if-a-ge131072.false
