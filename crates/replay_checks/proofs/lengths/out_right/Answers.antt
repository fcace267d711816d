-- `replay_checks::lengths::out_right` meets its contract. Assumes nothing.
use mathlib.Core.Path.{sym, ◌∙◌}
use Rattle.replay_checks.proofs.Laws.Lengths.{out_short, out_end}
use Rattle.replay_checks.proofs.lengths.out_right.Goals as goal

pub returns-then-has_product : goal.returns-then-has_product
returns-then-has_product c = out_end _ _ _ _ _ (sym c.has_product.ensures ∙ c.if-has_product.true)

pub returns-else-has_product : goal.returns-else-has_product
returns-else-has_product c = c.if-has_product.false ∙ out_short _ _ _ _ _ (sym c.has_product.ensures ∙ c.if-has_product.false)
