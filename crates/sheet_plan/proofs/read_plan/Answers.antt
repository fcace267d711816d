-- `sheet_plan::read_plan` meets its contract. Assumes nothing.
use mathlib.Core.Path.{sym, ap, ◌∙◌}
use mathlib.Core.List.{[]}
use native.Mathlib.Omega.{arith}
use Rattle.sheet_form.specs.Kinds.{number_for}
use Rattle.sheet_plan.proofs.Laws.Cells.{cells_asks, plan_length, plan_lost, plan_two, lifts_asks, code_asks, plan_bad, plan_one}
use Rattle.sheet_plan.proofs.read_plan.Goals as goal

pub read_cells-requires : goal.read_cells-requires
read_cells-requires c = cells_asks c.requires

pub shape_of-cells-in_err-to : goal.shape_of-cells-in_err-to
shape_of-cells-in_err-to c = plan_length c.requires _ c.in_err-to.ensures.took []

pub returns-in_err-to-clause-took : goal.returns-in_err-to-clause-took
returns-in_err-to-clause-took c = rw c.from_residual.ensures (plan_lost c.requires _ c.in_err-to.ensures.took _ (omega arith))

pub shape_of-cells-in-Cells : goal.shape_of-cells-in-Cells
shape_of-cells-in-Cells c = plan_length c.requires _ c.in_ok-to.ensures.took []

pub returns-in-Cells-clause-took : goal.returns-in-Cells-clause-took
returns-in-Cells-clause-took c = plan_two c.requires _ c.in_ok-to.ensures.took _ c.in_ok-to.ensures.inside (λ e. let z = ap number_for c.in-Cells.is in omega (arith, z))

pub stage_lifts-requires : goal.stage_lifts-requires
stage_lifts-requires c = lifts_asks c.requires _ c.in_ok-to.ensures.took [] c.in_ok-to.ensures.inside

pub shape_of-cells-then-not-stage_lifts : goal.shape_of-cells-then-not-stage_lifts
shape_of-cells-then-not-stage_lifts c = plan_length c.requires _ c.in_ok-to.ensures.took []

pub returns-then-not-stage_lifts-clause-took : goal.returns-then-not-stage_lifts-clause-took
returns-then-not-stage_lifts-clause-took c = plan_bad c.requires _ c.in_ok-to.ensures.took _ c.in_ok-to.ensures.inside (ap number_for c.in-Pins.is) (sym c.stage_lifts.ensures ∙ c.if-not-stage_lifts.true)

pub code_stage-requires : goal.code_stage-requires
code_stage-requires c = code_asks c.requires _ c.in_ok-to.ensures.took [] c.in_ok-to.ensures.inside (ap number_for c.in-Pins.is)

pub shape_of-cells-else-not-stage_lifts : goal.shape_of-cells-else-not-stage_lifts
shape_of-cells-else-not-stage_lifts c = (plan_one c.requires _ c.in_ok-to.ensures.took _ c.in_ok-to.ensures.inside (ap number_for c.in-Pins.is) (sym c.stage_lifts.ensures ∙ c.if-not-stage_lifts.false) c.code_stage.ensures).len

pub returns-else-not-stage_lifts-clause-took : goal.returns-else-not-stage_lifts-clause-took
returns-else-not-stage_lifts-clause-took c = plan_one c.requires _ c.in_ok-to.ensures.took _ c.in_ok-to.ensures.inside (ap number_for c.in-Pins.is) (sym c.stage_lifts.ensures ∙ c.if-not-stage_lifts.false) c.code_stage.ensures
