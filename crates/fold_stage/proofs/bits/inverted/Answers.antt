-- `fold_stage::bits::inverted` meets its contract. Assumes nothing.
use Rattle.fold_stage.proofs.Laws.Cells.{bit_even, bit_odd}
use Rattle.fold_stage.proofs.bits.inverted.Goals as goal

pub returns-then-inversion-eq0 : goal.returns-then-inversion-eq0
returns-then-inversion-eq0 c = bit_even _ _ c.if-inversion-eq0.true

pub returns-else-inversion-eq0 : goal.returns-else-inversion-eq0
returns-else-inversion-eq0 c = bit_odd _ _ c.if-inversion-eq0.false
