-- `listing_lines::stage_head` meets its contract: four texts, one behind the other. Assumes nothing.
use Rattle.rules.specs.Listing.{text}
use Rattle.listing_lines.proofs.Laws.Laid.{laid_more}
use Rattle.listing_lines.proofs.stage_head.Goals as goal

pub returns : goal.returns
unfolding text
returns c = laid_more (laid_more (laid_more c.put_text-a.ensures c.put_decimal-b.ensures) c.put_text-d.ensures) (rw c.filled.ensures at c.put_decimal.ensures)
