-- `aiger_write::lines::spaced_one` meets its contract: a space and the number. Assumes nothing.
use Rattle.rules.specs.Listing.{text}
use Rattle.listing_lines.proofs.Laws.Laid.{laid_as, laid_more}
use Rattle.listing_lines.proofs.Laws.Lines.{spaced_one}
use Rattle.aiger_write.proofs.lines.spaced_one.Goals as goal

pub returns : goal.returns
unfolding text
returns c = laid_as (laid_more c.put_text-a.ensures c.put_decimal.ensures) (spaced_one c.args.n)
