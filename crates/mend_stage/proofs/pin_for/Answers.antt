-- `mend_stage::pin_for` meets its contract. Assumes nothing.
use Rattle.mend_stage.proofs.Laws.{pin_own, pin_fixed}
use Rattle.mend_stage.proofs.pin_for.Goals as goal

pub returns-then-fixed-eq-EMPTY : goal.returns-then-fixed-eq-EMPTY
returns-then-fixed-eq-EMPTY c = pin_own _ _ _ c.if-fixed-eq-EMPTY.true c.pin.ensures

pub returns : goal.returns
returns c = pin_fixed _ _ c.if-fixed-eq-EMPTY.false
