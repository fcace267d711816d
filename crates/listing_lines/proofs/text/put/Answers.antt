-- `listing_lines::text::put` meets its contract: a store and a step. Assumes nothing.
use Rattle.listing_lines.proofs.Laws.Laid.{laid_one}
use Rattle.listing_lines.proofs.text.put.Goals as goal

pub returns : goal.returns
returns c = laid_one c.next.ensures c.store.ensures
