use native.Mathlib.Omega.{arith}
use Rattle.checks.proofs.Laws.Rising.{rising_begin, rising_more, rising, rising_end}
use Rattle.checks.proofs.first_forward.Goals as goal

pub loop-p-init : goal.loop-p-init
loop-p-init c = rising_begin _ _ c.pin_count-pins.ensures

pub overflow_mul-p : goal.overflow_mul-p
overflow_mul-p c = omega arith

pub offset_bounds-gates-p : goal.offset_bounds-gates-p
offset_bounds-gates-p c = omega arith

pub bounds-gates-p : goal.bounds-gates-p
bounds-gates-p c = omega arith

pub overflow_mul-p-in-loop-p : goal.overflow_mul-p-in-loop-p
overflow_mul-p-in-loop-p c = omega arith

pub overflow_add-p : goal.overflow_add-p
overflow_add-p c = omega arith

pub offset_bounds-gates-p-in-loop-p : goal.offset_bounds-gates-p-in-loop-p
offset_bounds-gates-p-in-loop-p c = omega arith

pub bounds-gates-p-in-loop-p : goal.bounds-gates-p-in-loop-p
bounds-gates-p-in-loop-p c = omega arith

pub returns-then-not-node_right : goal.returns-then-not-node_right
returns-then-not-node_right c = rising _ _ _ c.loop-p.invariant

pub loop-p-smaller : goal.loop-p-smaller
loop-p-smaller c = omega arith

pub loop-p-preserved : goal.loop-p-preserved
loop-p-preserved c = rising_more _ _ _ c.loop-p.invariant c.node_of.ensures c.node_right.ensures c.loop-p-test.true c.if-not-node_right.false-raw

pub returns : goal.returns
returns c = rising_end _ _ _ c.loop-p.invariant c.loop-p-test.false
