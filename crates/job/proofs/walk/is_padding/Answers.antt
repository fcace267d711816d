-- `job::walk::is_padding` meets its contract: the number of the bits that are left is 0. Assumes nothing.
use borrow.Author.Tests.{le-ltb}
use Rattle.job.proofs.Laws.Walk.{padding_long, padding_is}
use Rattle.job.proofs.walk.is_padding.Goals as goal

pub returns-else-left-lt8 : goal.returns-else-left-lt8
returns-else-left-lt8 c = let a = c.args in rw (le-ltb _ _ c.if-left-lt8.false) (padding_long a.at a.bytes.now c.if-left-lt8.false)

pub returns-then-left-lt8 : goal.returns-then-left-lt8
returns-then-left-lt8 c = padding_is c.if-left-lt8.true c.field.ensures
