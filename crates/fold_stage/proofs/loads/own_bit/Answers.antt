-- `fold_stage::loads::own_bit` meets its contract. Assumes nothing.
use mathlib.Core.Path.{refl, ◌∙◌}
use Rattle.fold_stage.proofs.Laws.Loads.{own_constant, own_other}
use Rattle.fold_stage.proofs.loads.own_bit.Goals as goal

pub returns-then-p-ne0 : goal.returns-then-p-ne0
returns-then-p-ne0 c = c.looked.ensures ∙ own_other _ _ c.if-p-ne0.true

pub returns-else-p-ne0 : goal.returns-else-p-ne0
returns-else-p-ne0 c = rw c.if-p-ne0.false (own_constant _ _ refl)
