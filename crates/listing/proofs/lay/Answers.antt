-- `listing::lay` meets its contract: measured first, then laid. Assumes nothing.
use mathlib.Core.Path.{refl, sym}
use native.Mathlib.Omega.{arith}
use Rattle.rules.specs.Listing.{listing}
use Rattle.listing_lines.specs.Stages.{stages_in}
use Rattle.listing.proofs.Laws.Written.{written_not, written_all}
use Rattle.listing.proofs.lay.Goals as goal

pub returns-then-length-out : goal.returns-then-length-out
returns-then-length-out c = let a = c.args in sym (written_not (listing a.height (stages_in a.size a.n a.plan.now a.words.now a.counts.now)) a.out.now refl c.whole-length.ensures (omega (arith, c.if-length-out.true)))

pub returns : goal.returns
returns c = let a = c.args in written_all (listing a.height (stages_in a.size a.n a.plan.now a.words.now a.counts.now)) a.out.now refl c.whole-length.ensures (omega (arith, c.if-length-out.false)) c.whole.ensures
