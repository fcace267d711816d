-- `stage_needed::needed` meets its contract: the order stands for itself. Assumes nothing.
use Rattle.stage_needed.proofs.Laws.Collecting.{count_order}
use Rattle.stage_needed.proofs.needed.Goals as goal

pub counted-requires : goal.counted-requires
counted-requires c = let s = c.requires in record { it = s.it; at = count_order s.at }

pub returns : goal.returns
returns c = record { all = λ x A. c.counted.ensures.all x (count_order A) }
