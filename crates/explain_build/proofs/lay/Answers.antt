-- `explain_build::lay` meets its contract: the areas are emptied, filled and tidied. Assumes nothing.
use mathlib.Core.Path.{◌∙◌}
use Rattle.placer.proofs.Laws.Build.{place_try}
use Rattle.explain_build.proofs.Laws.Attempt.{explained}
use Rattle.explain_build.proofs.lay.Goals as goal

pub attempt-e-requires : goal.attempt-e-requires
attempt-e-requires c = place_try c.requires c.empty_all.ensures

pub shape_of-plan : goal.shape_of-plan
shape_of-plan c = c.plan-3-1.given ∙ c.plan-2-1.given ∙ c.plan-1.given

pub shape_of-words : goal.shape_of-words
shape_of-words c = c.words-3-1.given ∙ c.words-2-1.given ∙ c.words-1.given

pub shape_of-counts : goal.shape_of-counts
shape_of-counts c = c.counts-3-1.given ∙ c.counts-2-1.given ∙ c.counts-1.given

pub returns : goal.returns
returns c = explained c.requires c.empty_all.ensures c.attempt-e.ensures c.is_ok.ensures.value c.tidy.ensures c.plan-1.given
