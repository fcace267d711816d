-- `listing_lines::stage_lines` meets its contract: the head, the words, the cells. Assumes nothing.
use Rattle.rules.specs.Listing.{text, stage_lines}
use Rattle.listing_lines.proofs.Laws.Laid.{laid_more}
use Rattle.listing_lines.proofs.stage_lines.Goals as goal

pub returns : goal.returns
unfolding text stage_lines
returns c = laid_more (laid_more (laid_more (laid_more c.stage_head-a.ensures c.put_text-b.ensures) c.words_text-d.ensures) c.put_text-e.ensures) c.cell_lines.ensures
