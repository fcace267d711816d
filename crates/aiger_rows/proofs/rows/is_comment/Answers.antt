-- `aiger_rows::rows::is_comment` meets its contract. Assumes nothing.
use mathlib.Core.Path.{◌∙◌}
use borrow.Author.Tests.{ne_eqb}
use Rattle.aiger_rows.proofs.Laws.Rows.{comment_long, comment_is}
use Rattle.aiger_rows.proofs.rows.is_comment.Goals as goal

pub returns-then-line-eq1 : goal.returns-then-line-eq1
returns-then-line-eq1 c = comment_is _ c.if-line-eq1.true

pub returns-else-line-eq1 : goal.returns-else-line-eq1
returns-else-line-eq1 c = ne_eqb _ 1 c.if-line-eq1.false ∙ comment_long _ c.if-line-eq1.false
