-- `job_write::sections::is_leaf` meets its contract. Assumes nothing.
use borrow.Author.Tests.{ne_eqb}
use Rattle.job_write.proofs.Laws.Sections.{leaf_mark, leaf_not}
use Rattle.job_write.proofs.sections.is_leaf.Goals as goal

pub returns-then-a-eq-EMPTY : goal.returns-then-a-eq-EMPTY
returns-then-a-eq-EMPTY c = leaf_mark c.args.a c.args.b c.if-a-eq-EMPTY.true

pub returns-else-a-eq-EMPTY : goal.returns-else-a-eq-EMPTY
returns-else-a-eq-EMPTY c = rw (ne_eqb _ _ c.if-a-eq-EMPTY.false) (leaf_not c.args.a c.args.b c.if-a-eq-EMPTY.false)
