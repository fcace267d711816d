use mathlib.Core.Path.{refl, ◌∙◌}
use native.Mathlib.Numerals.{sub-one}
use Rattle.reservation_count.proofs.Laws.Walks.{summing_none, summing_at, summing_more, summing_done}
use Rattle.reservation_count.proofs.walks.sum_all.Goals as goal

pub loop-p-init : goal.loop-p-init
loop-p-init c = summing_none _ _ _ _ c.requires

pub loop-p-preserved : goal.loop-p-preserved
loop-p-preserved c = summing_more _ _ _ _ c.requires _ _ _ c.loop-p.invariant c.loop-p-test.true _ _ c.wide.ensures refl _ _ _ (c.walk_all-n.ensures.all _ (summing_at _ _ _ _ c.requires _ _ _ c.loop-p.invariant c.loop-p-test.true _ _ c.wide.ensures refl)) (c.saturating_sub-d.ensures ∙ sub-one _)

pub returns : goal.returns
returns c = summing_done _ _ _ _ c.requires _ _ _ c.loop-p.invariant c.loop-p-test.false
