-- `fold_stage::loads::looked` meets its contract. Assumes nothing.
use mathlib.Core.Path.{◌∙◌}
use Rattle.std.proofs.lemmas.Bool.{le-ltb}
use Rattle.fold_stage.proofs.Laws.Loads.{held_past, held_there}
use Rattle.fold_stage.proofs.loads.looked.Goals as goal

pub returns-then-i-looks : goal.returns-then-i-looks
returns-then-i-looks c = held_there _ _ _ c.index-i.ensures

pub returns-else-i-looks : goal.returns-else-i-looks
returns-else-i-looks c = le-ltb _ _ c.if-i-looks.false ∙ held_past _ _ _ c.index-i.ensures c.if-i-looks.false
