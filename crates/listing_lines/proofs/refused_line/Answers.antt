-- `listing_lines::refused_line` meets its contract. Assumes nothing.
use Rattle.rules.specs.Listing.{text, refused_line}
use Rattle.listing_lines.proofs.Laws.Laid.{laid_more}
use Rattle.listing_lines.proofs.refused_line.Goals as goal

pub returns : goal.returns
unfolding text refused_line
returns c = laid_more (laid_more (laid_more (laid_more (laid_more c.put_text-a.ensures (rw c.wide.ensures at c.put_decimal-b.ensures)) c.put_text-d.ensures) c.put_decimal-e.ensures) c.pin_text-f.ensures) c.put_text.ensures
