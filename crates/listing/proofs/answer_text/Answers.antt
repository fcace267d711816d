-- `listing::answer_text` meets its contract: a refusal or the listing. Assumes nothing.
use mathlib.Core.Path.{◌∙◌}
use Rattle.listing.proofs.Laws.Answered.{answered_no, answered_yes}
use Rattle.listing.proofs.answer_text.Goals as goal

pub returns-then-number-ne0 : goal.returns-then-number-ne0
returns-then-number-ne0 c = let a = c.args in c.refused.ensures ∙ answered_no a.height a.stages a.plan.now a.words.now a.counts.now a.out.now a.number a.stage a.pin.0 c.if-number-ne0.true

pub returns : goal.returns
returns c = let a = c.args in c.listing.ensures ∙ answered_yes a.height a.stages a.plan.now a.words.now a.counts.now a.out.now a.number a.stage a.pin.0 c.if-number-ne0.false
