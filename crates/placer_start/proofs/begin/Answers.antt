-- `placer_start::begin` meets its contract: the reservation, the marks and the waiting list, one after the other. Assumes nothing.
use Rattle.placer_start.proofs.Laws.Opening.{begin_opens, begin_within, begins_over, begins_ready}
use Rattle.placer_start.proofs.begin.Goals as goal

pub returns-in_err-words : goal.returns-in_err-words
returns-in_err-words c = let A = c.requires in rw c.from_residual.ensures (begins_over (begin_opens A) c.reserve.ensures (begin_within A) c.in_err-words.was)

pub returns : goal.returns
returns c = let A = c.requires in begins_ready (begin_opens A) c.reserve.ensures (begin_within A) c.mark_given.ensures c.wait_all-waiting.ensures _ c.in_ok-words.was
