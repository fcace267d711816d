use mathlib.Core.Path.{sym, ◌∙◌}
use Rattle.sheet_plan.proofs.Laws.Lifts.{going_all, lift_asks, going_no, going_on, going_done}
use Rattle.sheet_plan.proofs.lifts.stage_lifts.Goals as goal

pub loop-p-init : goal.loop-p-init
loop-p-init c = going_all c.requires _

pub lifts_at-requires : goal.lifts_at-requires
lifts_at-requires c = lift_asks c.requires _ c.loop-p.invariant c.loop-p-test.true

pub returns-then-not-lifts_at : goal.returns-then-not-lifts_at
returns-then-not-lifts_at c = going_no c.requires _ c.loop-p.invariant c.loop-p-test.true (sym c.lifts_at.ensures ∙ c.if-not-lifts_at.true)

pub loop-p-preserved : goal.loop-p-preserved
loop-p-preserved c = going_on c.requires _ c.loop-p.invariant c.loop-p-test.true (sym c.lifts_at.ensures ∙ c.if-not-lifts_at.false)

pub returns : goal.returns
returns c = going_done c.requires _ c.loop-p.invariant c.loop-p-test.false
