-- `aiger_write::lines::output_line` meets its contract: a literal and the end of the line. Assumes nothing.
use Rattle.rules.specs.Listing.{text}
use Rattle.listing_lines.proofs.Laws.Laid.{laid_as, laid_more}
use Rattle.aiger_write.proofs.Laws.Lines.{number_row}
use Rattle.aiger_write.proofs.lines.output_line.Goals as goal

pub returns : goal.returns
unfolding text
returns c = laid_as (laid_more c.put_decimal-a.ensures c.put_text.ensures) (number_row c.args.literal.0 _ c.wide.ensures)
