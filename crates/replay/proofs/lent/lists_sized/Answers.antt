-- `replay::lent::lists_sized` meets its contract. Assumes nothing.
use native.Mathlib.Omega.{arith}
use Rattle.replay.proofs.Laws.Sizes.{tape_short, slots_short, bits_short, bits_left}
use Rattle.replay.proofs.lent.lists_sized.Goals as goal

pub returns-then-tape-plan : goal.returns-then-tape-plan
returns-then-tape-plan c = tape_short _ _ _ _ _ _ c.if-tape-plan.true

pub returns-then-slots-plan : goal.returns-then-slots-plan
returns-then-slots-plan c = slots_short _ _ _ _ _ _ c.if-tape-plan.false (omega (arith, c.if-slots-plan.true))

pub returns-then-slots-plan-2 : goal.returns-then-slots-plan-2
returns-then-slots-plan-2 c = slots_short _ _ _ _ _ _ c.if-tape-plan.false (omega (arith, c.if-slots-plan-2.true, c.if-slots-plan.false))

pub returns-then-bits-pins : goal.returns-then-bits-pins
returns-then-bits-pins c = bits_short _ _ _ _ _ _ c.if-tape-plan.false (omega (arith, c.if-slots-plan-2.false, c.if-slots-plan.false)) _ c.pin_count-pins.ensures c.if-bits-pins.true

pub returns : goal.returns
returns c = bits_left _ _ _ _ _ _ c.if-tape-plan.false (omega (arith, c.if-slots-plan-2.false, c.if-slots-plan.false)) _ c.pin_count-pins.ensures c.if-bits-pins.false
