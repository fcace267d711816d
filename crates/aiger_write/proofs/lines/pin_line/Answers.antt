-- `aiger_write::lines::pin_line` meets its contract: a literal, the rest, the end of the line. Assumes nothing.
use Rattle.rules.specs.Listing.{text}
use Rattle.listing_lines.proofs.Laws.Laid.{laid_as, laid_more}
use Rattle.aiger_write.proofs.Laws.Lines.{pin_row}
use Rattle.aiger_write.proofs.lines.pin_line.Goals as goal

pub returns : goal.returns
unfolding text
returns c = laid_as (laid_more (laid_more c.put_decimal-a.ensures c.spaced-b.ensures) c.put_text.ensures) (pin_row c.args.pin.0 _ c.args.rest.now c.index.ensures)
