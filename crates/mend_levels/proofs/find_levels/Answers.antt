use mathlib.Core.Path.{refl, ◌∙◌, ap}
use lib.ListN.{length, length-replicate}
use Rattle.mend_levels.proofs.Laws.{risen_none, next_pass, risen_more, risen_still, risen_all}
use Rattle.mend_levels.proofs.find_levels.Goals as goal

pub loop-init : goal.loop-init
loop-init c = risen_none _ _ _ _ c.requires _ refl _ (ap length (c.fill.ensures.after (λ y e. e)) ∙ length-replicate _ _) _ (c.fill.ensures.after (λ y e. e))

pub pass-requires : goal.pass-requires
pass-requires c = next_pass _ _ _ _ c.requires _ refl _ (ap length (c.fill.ensures.after (λ y e. e)) ∙ length-replicate _ _) _ _ c.loop.invariant

pub shape_of-levels-then-not-pass : goal.shape_of-levels-then-not-pass
shape_of-levels-then-not-pass c = (risen_still _ _ _ _ c.requires _ refl _ (ap length (c.fill.ensures.after (λ y e. e)) ∙ length-replicate _ _) _ _ c.loop.invariant c.loop-test.true _ _ c.pass.ensures c.if-not-pass.true).len

pub returns-then-not-pass : goal.returns-then-not-pass
returns-then-not-pass c = risen_still _ _ _ _ c.requires _ refl _ (ap length (c.fill.ensures.after (λ y e. e)) ∙ length-replicate _ _) _ _ c.loop.invariant c.loop-test.true _ _ c.pass.ensures c.if-not-pass.true

pub loop-preserved : goal.loop-preserved
loop-preserved c = risen_more _ _ _ _ c.requires _ refl _ (ap length (c.fill.ensures.after (λ y e. e)) ∙ length-replicate _ _) _ _ c.loop.invariant c.loop-test.true _ _ c.pass.ensures

pub shape_of-levels : goal.shape_of-levels
shape_of-levels c = (risen_all _ _ _ _ c.requires _ refl _ (ap length (c.fill.ensures.after (λ y e. e)) ∙ length-replicate _ _) _ _ c.loop.invariant c.loop-test.false).len

pub returns : goal.returns
returns c = risen_all _ _ _ _ c.requires _ refl _ (ap length (c.fill.ensures.after (λ y e. e)) ∙ length-replicate _ _) _ _ c.loop.invariant c.loop-test.false
