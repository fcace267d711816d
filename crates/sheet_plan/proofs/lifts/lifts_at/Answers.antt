-- `sheet_plan::lifts::lifts_at` meets its contract. Assumes nothing.
use native.Mathlib.Omega.{arith}
use Rattle.sheet_plan.proofs.Laws.Lifts.{lift_empty, lift_past, lift_load, first_inside, lift_copy, lift_and}
use Rattle.sheet_plan.proofs.lifts.lifts_at.Goals as goal

pub returns-then-held : goal.returns-then-held
returns-then-held c = lift_empty c.requires _ c.if-held.true

pub returns-then-pin_count-wide : goal.returns-then-pin_count-wide
returns-then-pin_count-wide c = lift_past c.requires _ c.if-held.false c.pin_count.ensures c.wide.ensures c.if-pin_count-wide.true

pub returns-then-width-i : goal.returns-then-width-i
returns-then-width-i c = lift_load c.requires _ c.if-held.false c.pin_count.ensures c.wide.ensures c.if-pin_count-wide.false c.width.ensures c.if-width-i.true

pub offset_bounds-cells-a : goal.offset_bounds-cells-a
offset_bounds-cells-a c = omega (arith, first_inside c.requires _ c.if-held.false c.pin_count.ensures c.wide.ensures c.if-pin_count-wide.false c.width.ensures c.if-width-i.false c.first_lower-a.ensures)

pub bounds-cells-a : goal.bounds-cells-a
bounds-cells-a c = omega (arith, first_inside c.requires _ c.if-held.false c.pin_count.ensures c.wide.ensures c.if-pin_count-wide.false c.width.ensures c.if-width-i.false c.first_lower-a.ensures)

pub returns-then-cells-a : goal.returns-then-cells-a
returns-then-cells-a c = lift_copy c.requires _ c.if-held.false c.pin_count.ensures c.wide.ensures c.if-pin_count-wide.false c.width.ensures c.if-width-i.false c.first_lower-a.ensures c.if-cells-a.true

pub returns : goal.returns
returns c = lift_and c.requires _ c.if-held.false c.pin_count.ensures c.wide.ensures c.if-pin_count-wide.false c.width.ensures c.if-width-i.false c.first_lower-a.ensures c.if-cells-a.false c.node_at.ensures c.is_gate.ensures
