-- `listing_lines::cell_line` meets its contract: an empty cell has no line. Assumes nothing.
use mathlib.Core.Path.{◌∙◌}
use Rattle.rules.specs.Listing.{text}
use Rattle.listing_lines.proofs.Laws.Laid.{laid_none, laid_as, laid_more}
use Rattle.listing_lines.proofs.Laws.Lines.{cell_none, cell_one}
use Rattle.listing_lines.proofs.cell_line.Goals as goal

pub returns-then-is_empty : goal.returns-then-is_empty
returns-then-is_empty c = laid_as laid_none (cell_none c.args.p c.args.c c.is_empty.ensures c.if-is_empty.true)

pub returns : goal.returns
unfolding text
returns c = laid_as (laid_more (laid_more (laid_more c.put_decimal-a.ensures c.put_text-b.ensures) (rw (c.index.ensures ∙ c.pin.ensures) at c.put_decimal-d.ensures)) c.put_text.ensures) (cell_one c.args.p c.args.c c.is_empty.ensures c.if-is_empty.false)
