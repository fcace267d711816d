-- `explain::place` meets its contract: 21 and empty areas, or the plan coded and its lines. Assumes nothing.
use mathlib.Core.Path.{◌∙◌}
use Rattle.placer.specs.Answers.{told}
use Rattle.explain.proofs.Laws.Place.{uncoded, ends_short, place_again, again_code, ends_told}
use Rattle.explain.proofs.place.Goals as goal

pub returns-then-short : goal.returns-then-short
returns-then-short c = rw c.from.ensures (ends_short c.requires c.too_short-short.ensures c.if-short.true c.empty_all.ensures)

pub lay-e-requires : goal.lay-e-requires
lay-e-requires c = place_again c.requires c.too_short-short.ensures

pub code_plan-requires : goal.code_plan-requires
unfolding told
code_plan-requires c = rw c.in-Ok.is at (again_code c.requires c.too_short-short.ensures c.if-short.false c.lay-e.ensures (c.lay-e.auto.plan ∙ c.too_short-short.auto.plan))

pub returns-in-Ok : goal.returns-in-Ok
unfolding told
returns-in-Ok c = ends_told c.requires c.too_short-short.ensures c.if-short.false c.lay-e.ensures (rw c.in-Ok.is c.code_plan.ensures)

pub returns-in_default : goal.returns-in_default
returns-in_default c = ends_told c.requires c.too_short-short.ensures c.if-short.false c.lay-e.ensures (uncoded _ c.in_default.not-Ok _ _ _)
