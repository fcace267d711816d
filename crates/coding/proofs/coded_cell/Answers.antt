-- `coding::coded_cell` meets its contract: each way out is a case of the definition. Assumes nothing.
use native.Mathlib.Omega.{arith}
use Rattle.coding.proofs.Laws.{code_empty, pin_small, code_load, first_inside, code_copy, code_and}
use Rattle.coding.proofs.coded_cell.Goals as goal

pub returns-then-held : goal.returns-then-held
returns-then-held c = code_empty _ _ _ c.requires _ c.if-held.true _ c.empty.ensures

pub returns-then-width-i : goal.returns-then-width-i
returns-then-width-i c = code_load _ _ _ c.requires c.if-held.false _ c.width.ensures _ c.if-width-i.true _ c.plain.ensures

pub offset_bounds-cells-a : goal.offset_bounds-cells-a
offset_bounds-cells-a c = omega (arith, first_inside _ _ _ c.requires c.if-held.false _ c.width.ensures c.if-width-i.false _ c.first_lower-a.ensures)

pub bounds-cells-a : goal.bounds-cells-a
bounds-cells-a c = omega (arith, first_inside _ _ _ c.requires c.if-held.false _ c.width.ensures c.if-width-i.false _ c.first_lower-a.ensures)

pub returns-then-cells-a : goal.returns-then-cells-a
returns-then-cells-a c = code_copy _ _ _ c.requires c.if-held.false _ c.width.ensures c.if-width-i.false _ c.first_lower-a.ensures _ c.if-cells-a.true _ c.plain-then-cells-a.ensures

pub and_cell-requires : goal.and_cell-requires
and_cell-requires c = pin_small _ _ _ c.requires c.if-held.false

pub returns : goal.returns
returns c = code_and _ _ _ c.requires c.if-held.false _ c.width.ensures c.if-width-i.false _ c.first_lower-a.ensures _ c.if-cells-a.false _ c.node_at.ensures _ c.and_cell.ensures
