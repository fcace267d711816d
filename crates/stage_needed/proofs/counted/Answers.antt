-- `stage_needed::counted` meets its contract: the list, and the marks gone. Assumes nothing.
use Rattle.stage_needed.proofs.Laws.Collecting.{needed_all}
use Rattle.stage_needed.proofs.counted.Goals as goal

pub returns : goal.returns
returns c = record { all = λ x A. needed_all A (c.collect-r.ensures.all x A) c.unmark.ensures }
