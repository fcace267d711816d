-- `fold_stage::loads::next_load` meets its contract. Assumes nothing.
use Rattle.fold_stage.proofs.Laws.Cells.{none, some}
use Rattle.fold_stage.proofs.Laws.Loads.{load_empty, load_filled}
use Rattle.fold_stage.proofs.loads.next_load.Goals as goal

pub returns-then-not-is_empty : goal.returns-then-not-is_empty
returns-then-not-is_empty c = load_filled _ _ (some c.is_empty.ensures c.if-not-is_empty.true) _ c.pin.ensures _ c.looked.ensures

pub returns-else-not-is_empty : goal.returns-else-not-is_empty
returns-else-not-is_empty c = rw c.if-not-is_empty.false (load_empty _ _ (none c.is_empty.ensures c.if-not-is_empty.false))
