-- `listing_lines::whole` meets its contract: the first line, the stages, the end. Assumes nothing.
use Rattle.rules.specs.Listing.{text}
use Rattle.listing_lines.proofs.Laws.Laid.{laid_more}
use Rattle.listing_lines.proofs.Laws.Lines.{listing_as}
use Rattle.listing_lines.proofs.whole.Goals as goal

pub returns : goal.returns
unfolding text
returns c = let a = c.args in rw (listing_as a.height a.size a.n a.plan.now a.words.now a.counts.now) (laid_more (laid_more c.first_line-a.ensures c.stages_lines-b.ensures) c.put_text.ensures)
