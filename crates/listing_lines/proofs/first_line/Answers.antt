-- `listing_lines::first_line` meets its contract: five texts, one behind the other. Assumes nothing.
use Rattle.rules.specs.Listing.{text}
use Rattle.listing_lines.proofs.Laws.Laid.{laid_more}
use Rattle.listing_lines.proofs.first_line.Goals as goal

pub returns : goal.returns
unfolding text
returns c = laid_more (laid_more (laid_more (laid_more c.put_text-a.ensures (rw c.wide.ensures at c.put_decimal-b.ensures)) c.put_text-d.ensures) c.put_decimal-e.ensures) c.put_text.ensures
