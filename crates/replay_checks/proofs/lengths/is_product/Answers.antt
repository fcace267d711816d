-- `replay_checks::lengths::is_product` meets its contract. Assumes nothing.
use mathlib.Core.Path.{◌∙◌}
use borrow.Author.Tests.{ne_eqb}
use Rattle.replay_checks.proofs.Laws.Lengths.{product_odd}
use Rattle.replay_checks.proofs.lengths.is_product.Goals as goal

pub returns-else-length-each-eq0 : goal.returns-else-length-each-eq0
returns-else-length-each-eq0 c = ne_eqb _ _ c.if-length-each-eq0.false ∙ product_odd _ _ _ c.if-length-each-eq0.false
