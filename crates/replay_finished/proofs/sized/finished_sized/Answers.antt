-- `replay_finished::sized::finished_sized` meets its contract. Assumes nothing.
use mathlib.Core.Path.{refl, sym, ◌∙◌}
use mathlib.Core.List.{[]}
use native.Mathlib.Omega.{arith}
use Rattle.replay_finished.proofs.Laws.Sizes.{plan_wrong, used_small, slots_wrong, lists_decide}
use Rattle.replay_finished.proofs.sized.finished_sized.Goals as goal

pub returns-then-not-plan_fits : goal.returns-then-not-plan_fits
returns-then-not-plan_fits c = plan_wrong _ _ _ _ _ _ _ _ _ _ _ c.plan_fits.ensures c.if-not-plan_fits.true

pub overflow_mul-used : goal.overflow_mul-used
overflow_mul-used c = omega (arith, used_small _ [] [] _ _ _ 0 0 0 0 _ c.plan_fits.ensures c.if-not-plan_fits.false _ c.stage_size.ensures, c.well_formed.1.1.1.0)

pub returns-then-slots_fit : goal.returns-then-slots_fit
returns-then-slots_fit c = lists_decide _ _ _ _ _ _ _ _ _ _ _ c.plan_fits.ensures c.if-not-plan_fits.false _ c.stage_size.ensures _ refl (sym c.slots_fit.ensures ∙ c.if-slots_fit.true) _ c.lists_sized.ensures

pub returns-else-slots_fit : goal.returns-else-slots_fit
returns-else-slots_fit c = c.if-slots_fit.false ∙ slots_wrong _ _ _ _ _ _ _ _ _ _ _ c.plan_fits.ensures c.if-not-plan_fits.false _ c.stage_size.ensures _ refl (sym c.slots_fit.ensures ∙ c.if-slots_fit.false)
