-- `replay_finished::sized::slots_fit` meets its contract. Assumes nothing.
use native.Mathlib.Omega.{arith}
use Rattle.rules.specs.Graph.{pin_count}
use Rattle.replay_finished.proofs.Laws.Sizes.{literals_over, work_short, work_left}
use Rattle.replay_finished.proofs.sized.slots_fit.Goals as goal

pub returns-then-used-gt-LITERALS : goal.returns-then-used-gt-LITERALS
returns-then-used-gt-LITERALS c = literals_over _ _ _ _ _ c.pin_count-pins.ensures (omega (arith, c.if-used-gt-LITERALS.true))

pub overflow_mul-pins : goal.overflow_mul-pins
unfolding pin_count
overflow_mul-pins c = omega (arith, c.pin_count-pins.ensures)

pub returns-then-used-pins : goal.returns-then-used-pins
returns-then-used-pins c = literals_over _ _ _ _ _ c.pin_count-pins.ensures (omega (arith, c.if-used-gt-LITERALS.false, c.if-used-pins.true))

pub returns-then-work-pins : goal.returns-then-work-pins
returns-then-work-pins c = work_short _ _ _ _ _ c.pin_count-pins.ensures (omega (arith, c.if-used-gt-LITERALS.false, c.if-used-pins.false)) c.if-work-pins.true

pub returns : goal.returns
returns c = work_left _ _ _ _ _ c.pin_count-pins.ensures (omega (arith, c.if-used-gt-LITERALS.false, c.if-used-pins.false)) c.if-work-pins.false
