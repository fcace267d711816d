-- `rows::row_mut` meets its contract. Assumes nothing.
use Rattle.rules.specs.Cells.{row_of}
use native.Mathlib.Omega.{arith}
use Rattle.rows.proofs.Rows.{Part, part}
use Rattle.rows.proofs.row_mut.Goals as goal
use Rattle.rows.proofs.row_mut.Goals.{After-row_span-span}

located : (c : After-row_span-span) →
    let a = c.args in
    Part c.row_span-span.result (row_of a.height a.stage a.level a.plan.now) a.plan.now
located c = let a = c.args in part c.row_span-span.result a.height a.stage a.level a.plan.now c.row_span-span.ensures

pub offset_bounds-plan-start : goal.offset_bounds-plan-start
offset_bounds-plan-start c = omega (arith, located c)

pub slice_bounds-result-count : goal.slice_bounds-result-count
slice_bounds-result-count c = (located c).rises

pub slice_bounds-plan-start : goal.slice_bounds-plan-start
slice_bounds-plan-start c = (located c).rises

pub slice_bounds-plan-end : goal.slice_bounds-plan-end
slice_bounds-plan-end c = (located c).inside

pub returns : goal.returns
returns c = (located (goal.at.returns c).After-row_span-span).holds
