-- `plan_check_stage::right::right_at` meets its contract. Assumes nothing.
use native.Mathlib.Omega.{arith}
use borrow.Author.Tests.{ne_eqb}
use Rattle.plan_check_stage.proofs.Laws.Right.{none, some, pin_small, lower_inside, cell_empty, cell_zero, cell_past, cell_above, cell_more, cell_load}
use Rattle.plan_check_stage.proofs.right.right_at.Goals as goal
use Rattle.plan_check_stage.proofs.right.right_at.Goals.{then-i-eq0-via-then-i-eq0, then-i-eq0-via-else-i-eq0+then-pin_count-i}

pub returns-then-is_empty : goal.returns-then-is_empty
returns-then-is_empty c = cell_empty _ _ _ _ _ _ _ c.requires (none c.is_empty.ensures c.if-is_empty.true)

pub returns-then-i-eq0 : goal.returns-then-i-eq0
returns-then-i-eq0 c =
    let full = some c.is_empty.ensures c.if-is_empty.false in
    elim c.then-i-eq0.branch [
      | then-i-eq0-via-then-i-eq0 w ↦ cell_zero _ _ _ _ _ _ _ c.requires full _ _ c.pin-pin.ensures c.index-i.ensures w.if-i-eq0.true
      | then-i-eq0-via-else-i-eq0+then-pin_count-i w ↦ cell_past _ _ _ _ _ _ _ c.requires full _ _ c.pin-pin.ensures c.index-i.ensures w.if-i-eq0.false _ w.pin_count.ensures w.if-pin_count-i.true
    ]

pub offset_bounds-cells-x : goal.offset_bounds-cells-x
offset_bounds-cells-x c = omega (arith, c.first_lower-x.ensures, (lower_inside _ _ _ c.requires _ c.width.ensures c.if-p-width.true).0, c.requires.stage.size, c.requires.stage.tall.high, c.requires.stage.tall.double)

pub bounds-cells-x : goal.bounds-cells-x
bounds-cells-x c = omega (arith, c.first_lower-x.ensures, (lower_inside _ _ _ c.requires _ c.width.ensures c.if-p-width.true).0)

pub offset_bounds-cells-y : goal.offset_bounds-cells-y
offset_bounds-cells-y c = omega (arith, c.second_lower-y.ensures, (lower_inside _ _ _ c.requires _ c.width.ensures c.if-p-width.true).1, c.requires.stage.size, c.requires.stage.tall.high, c.requires.stage.tall.double)

pub bounds-cells-y : goal.bounds-cells-y
bounds-cells-y c = omega (arith, c.second_lower-y.ensures, (lower_inside _ _ _ c.requires _ c.width.ensures c.if-p-width.true).1)

pub right_above-requires : goal.right_above-requires
right_above-requires c = pin_small _ (some c.is_empty.ensures c.if-is_empty.false)

pub returns-then-p-width : goal.returns-then-p-width
returns-then-p-width c = cell_above _ _ _ _ _ _ _ c.requires (some c.is_empty.ensures c.if-is_empty.false) _ _ c.pin-pin.ensures c.index-i.ensures c.if-i-eq0.false _ c.pin_count.ensures c.if-pin_count-i.false _ c.width.ensures c.if-p-width.true _ _ _ _ c.first_lower-x.ensures c.second_lower-y.ensures c.pin.ensures c.pin-then-p-width.ensures _ c.right_above.ensures

pub returns-else-cell-pin : goal.returns-else-cell-pin
returns-else-cell-pin c = rw (ne_eqb _ _ c.if-cell-pin.false) (cell_more _ _ _ _ _ _ _ c.requires (some c.is_empty.ensures c.if-is_empty.false) _ _ c.pin-pin.ensures c.index-i.ensures c.if-i-eq0.false _ c.pin_count.ensures c.if-pin_count-i.false _ c.width.ensures c.if-p-width.false c.if-cell-pin.false)

pub returns-then-cell-pin : goal.returns-then-cell-pin
returns-then-cell-pin c = cell_load _ _ _ _ _ _ _ c.requires (some c.is_empty.ensures c.if-is_empty.false) _ _ c.pin-pin.ensures c.index-i.ensures c.if-i-eq0.false _ c.pin_count.ensures c.if-pin_count-i.false _ c.width.ensures c.if-p-width.false c.if-cell-pin.true _ c.may_load.ensures
