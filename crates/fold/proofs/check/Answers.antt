-- `fold::check` meets its contract. Assumes nothing.
use mathlib.Core.Path.{sym, ◌∙◌}
use Rattle.fold.proofs.Laws.Checks.{refused_1, plan_wrong, result_few, work_few, refused_0}
use Rattle.fold.proofs.check.Goals.{then-res-plan-via-then-res-plan, then-res-plan-via-else-res-plan+then-work-lt65536}
use Rattle.fold.proofs.check.Goals as goal

pub returns-then-not-is_height : goal.returns-then-not-is_height
returns-then-not-is_height c = refused_1 _ _ _ _ (sym c.is_height.ensures ∙ c.if-not-is_height.true)

pub returns-then-not-plan_sized : goal.returns-then-not-plan_sized
returns-then-not-plan_sized c = plan_wrong _ _ _ _ (sym c.is_height.ensures ∙ c.if-not-is_height.false) (sym c.plan_sized.ensures ∙ c.if-not-plan_sized.true)

pub returns-then-res-plan : goal.returns-then-res-plan
returns-then-res-plan c =
    let h = sym c.is_height.ensures ∙ c.if-not-is_height.false in
    let p = sym c.plan_sized.ensures ∙ c.if-not-plan_sized.false in
    elim c.then-res-plan.branch [
      | then-res-plan-via-then-res-plan w ↦ result_few _ _ _ _ h p w.if-res-plan.true
      | then-res-plan-via-else-res-plan+then-work-lt65536 w ↦ work_few _ _ _ _ h p w.if-res-plan.false w.if-work-lt65536.true
    ]

pub returns : goal.returns
returns c = refused_0 _ _ _ _ (sym c.is_height.ensures ∙ c.if-not-is_height.false) (sym c.plan_sized.ensures ∙ c.if-not-plan_sized.false) c.if-res-plan.false c.if-work-lt65536.false
