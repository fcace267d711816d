-- `listing::listing` meets its contract: the height, the areas, the text. Assumes nothing.
use mathlib.Core.Path.{sym, ◌∙◌}
use Rattle.rules.specs.Cells.{stage_size}
use Rattle.listing.proofs.Laws.Answered.{at_height, hold_holds, listed_none, listed_short, listed_all}
use Rattle.listing.proofs.listing.Goals as goal

pub returns-then-not-is_height : goal.returns-then-not-is_height
returns-then-not-is_height c = let a = c.args in listed_none a.height a.n a.plan.now a.words.now a.counts.now a.out.now (sym c.is_height.ensures ∙ c.if-not-is_height.true)

pub holds-requires : goal.holds-requires
holds-requires c = sym c.is_height.ensures ∙ c.if-not-is_height.false

pub returns-then-not-holds : goal.returns-then-not-holds
returns-then-not-holds c = let a = c.args in listed_short a.height a.n a.plan.now a.words.now a.counts.now a.out.now (sym c.is_height.ensures ∙ c.if-not-is_height.false) (sym c.holds.ensures ∙ c.if-not-holds.true)

pub lay-requires : goal.lay-requires
lay-requires c = let a = c.args in rw (at_height a.height (stage_size a.height) c.stage_size-size.ensures (sym c.is_height.ensures ∙ c.if-not-is_height.false)) (hold_holds a.height a.n a.plan.now a.words.now a.counts.now (sym c.holds.ensures ∙ c.if-not-holds.false))

pub returns : goal.returns
returns c = let a = c.args in let h = sym c.is_height.ensures ∙ c.if-not-is_height.false in (rw (at_height a.height (stage_size a.height) c.stage_size-size.ensures h) at c.lay.ensures) ∙ listed_all a.height a.n a.plan.now a.words.now a.counts.now a.out.now h (sym c.holds.ensures ∙ c.if-not-holds.false)
