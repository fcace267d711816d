-- `fold_stage::bits::fold_cell` meets its contract: each way out is a case of the definition. Assumes nothing.
use mathlib.Core.Path.{sym, ◌∙◌}
use native.Mathlib.Omega.{arith}
use Rattle.fold_stage.proofs.Laws.Cells.{none, some, folds_empty, folds_copies, folds_first_lacks, folds_second_lacks, folds_and}
use Rattle.fold_stage.proofs.bits.fold_cell.Goals.{then-is_empty-2-via-then-is_empty-2, then-is_empty-2-via-else-is_empty-2+then-is_empty-3}
use Rattle.fold_stage.proofs.bits.fold_cell.Goals as goal

pub returns-then-is_empty : goal.returns-then-is_empty
returns-then-is_empty c = folds_empty _ _ _ c.requires _ c.wide.ensures (none c.is_empty.ensures c.if-is_empty.true)

pub offset_bounds-bits-a : goal.offset_bounds-bits-a
offset_bounds-bits-a c = omega (arith, c.first_lower-a.ensures, c.requires.first, c.requires.same)

pub bounds-bits-a : goal.bounds-bits-a
bounds-bits-a c = omega (arith, c.first_lower-a.ensures, c.requires.first, c.requires.same)

pub returns-then-not-ands : goal.returns-then-not-ands
returns-then-not-ands c = folds_copies _ _ _ c.requires _ c.wide.ensures (some c.is_empty.ensures c.if-is_empty.false) _ c.first_lower-a.ensures (sym c.ands.ensures ∙ c.if-not-ands.true)

pub offset_bounds-cells-a : goal.offset_bounds-cells-a
offset_bounds-cells-a c = omega (arith, c.first_lower-a.ensures, c.requires.first)

pub bounds-cells-a : goal.bounds-cells-a
bounds-cells-a c = omega (arith, c.first_lower-a.ensures, c.requires.first)

pub returns-then-is_empty-2 : goal.returns-then-is_empty-2
returns-then-is_empty-2 c =
    let held = some c.is_empty.ensures c.if-is_empty.false in
    let joins = sym c.ands.ensures ∙ c.if-not-ands.false in
    elim c.then-is_empty-2.branch [
      | then-is_empty-2-via-then-is_empty-2 w ↦ folds_first_lacks _ _ _ c.requires _ c.wide.ensures held _ c.first_lower-a.ensures joins (none c.is_empty-2.ensures w.if-is_empty-2.true)
      | then-is_empty-2-via-else-is_empty-2+then-is_empty-3 w ↦
          folds_second_lacks _ _ _ c.requires _ c.wide.ensures held _ c.first_lower-a.ensures joins (some c.is_empty-2.ensures w.if-is_empty-2.false) _ c.second_lower-b.ensures
          (none w.is_empty-else-is_empty-2.ensures w.if-is_empty-3.true)
    ]

pub offset_bounds-cells-b : goal.offset_bounds-cells-b
offset_bounds-cells-b c = omega (arith, c.second_lower-b.ensures, c.requires.second)

pub bounds-cells-b : goal.bounds-cells-b
bounds-cells-b c = omega (arith, c.second_lower-b.ensures, c.requires.second)

pub offset_bounds-bits-a-2 : goal.offset_bounds-bits-a-2
offset_bounds-bits-a-2 c = omega (arith, c.first_lower-a.ensures, c.requires.first, c.requires.same)

pub bounds-bits-a-2 : goal.bounds-bits-a-2
bounds-bits-a-2 c = omega (arith, c.first_lower-a.ensures, c.requires.first, c.requires.same)

pub offset_bounds-bits-b : goal.offset_bounds-bits-b
offset_bounds-bits-b c = omega (arith, c.second_lower-b.ensures, c.requires.second, c.requires.same)

pub bounds-bits-b : goal.bounds-bits-b
bounds-bits-b c = omega (arith, c.second_lower-b.ensures, c.requires.second, c.requires.same)

pub returns : goal.returns
returns c =
    folds_and _ _ _ c.requires _ c.wide.ensures (some c.is_empty.ensures c.if-is_empty.false) _ c.first_lower-a.ensures (sym c.ands.ensures ∙ c.if-not-ands.false)
    (some c.is_empty-2.ensures c.if-is_empty-2.false) _ c.second_lower-b.ensures (some c.is_empty-else-is_empty-2.ensures c.if-is_empty-3.false) _ c.and_bit.ensures
