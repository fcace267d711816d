-- `fold_stage::bits::and_bit` meets its contract. Assumes nothing.
use mathlib.Core.Path.{◌∙◌}
use Rattle.fold_stage.proofs.Laws.Cells.{and_one, and_zero}
use Rattle.fold_stage.proofs.bits.and_bit.Goals as goal

pub returns-then-inverted : goal.returns-then-inverted
returns-then-inverted c = and_one _ _ _ _ _ _ _ _ c.first_inversion.ensures c.second_inversion.ensures c.inverted.ensures c.if-inverted.true c.inverted-then-inverted.ensures

pub returns-else-inverted : goal.returns-else-inverted
returns-else-inverted c = c.if-inverted.false ∙ and_zero _ _ _ _ _ _ c.first_inversion.ensures c.inverted.ensures c.if-inverted.false
