-- `checks::graph_sized` meets its contract. Assumes nothing.
use Rattle.checks.proofs.Laws.Refusing.{gates_odd, no_pins, pins_few}
use Rattle.checks.proofs.graph_sized.Goals as goal

pub returns-then-gates-ne0 : goal.returns-then-gates-ne0
returns-then-gates-ne0 c = gates_odd _ c.if-gates-ne0.true

pub returns-then-pins-eq0 : goal.returns-then-pins-eq0
returns-then-pins-eq0 c = no_pins _ c.if-gates-ne0.false _ c.pin_count-pins.ensures c.if-pins-eq0.true

pub returns : goal.returns
returns c = pins_few _ c.if-gates-ne0.false _ c.pin_count-pins.ensures c.if-pins-eq0.false
