-- `job::steps::read_pin` meets its contract. Assumes nothing.
use native.Mathlib.Omega.{arith}
use Rattle.rules.specs.Cells.{empty}
use Rattle.job.proofs.Laws.Steps.{pin_lost, pin_gate_as, pin_leaf}
use Rattle.job.proofs.steps.read_pin.Goals as goal

pub returns-then-bytes-at : goal.returns-then-bytes-at
returns-then-bytes-at c = pin_lost c.requires c.if-bytes-at.true

pub returns-then-field-eq1 : goal.returns-then-field-eq1
returns-then-field-eq1 c = pin_gate_as c.requires c.if-bytes-at.false c.field.ensures c.if-field-eq1.true _ _ _ c.read_fields.ensures

pub returns : goal.returns
unfolding empty
returns c = (pin_leaf c.requires c.if-bytes-at.false c.field.ensures c.if-field-eq1.false c.store.ensures c.store-2.ensures, omega arith)
