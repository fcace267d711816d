-- `sheet_read::walk::is_padding` meets its contract. Assumes nothing.
use native.Mathlib.Omega.{arith}
use Rattle.job.proofs.Laws.Walk.{padding_long, padding_is}
use Rattle.sheet_read.proofs.walk.is_padding.Goals as goal

pub returns-then-left-ge8 : goal.returns-then-left-ge8
returns-then-left-ge8 c = padding_long c.args.at c.args.bytes.now (omega (arith, c.if-left-ge8.true))

pub returns : goal.returns
returns c = padding_is (omega (arith, c.if-left-ge8.false)) c.field.ensures
