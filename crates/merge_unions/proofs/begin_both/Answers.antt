-- `merge_unions::begin_both` meets its contract: the reservation, the marks and the waiting list, one after the other. Assumes nothing.
use Rattle.placer_start.proofs.Laws.Opening.{begins_over, given_at, begins_ready}
use Rattle.merge_unions.proofs.Laws.Opening.{open_reserve, open_wait}
use Rattle.merge_unions.proofs.begin_both.Goals as goal

pub reserve_both-requires : goal.reserve_both-requires
reserve_both-requires c = open_reserve c.requires

pub mark_given-requires : goal.mark_given-requires
mark_given-requires c = given_at c.requires.opens c.reserve_both.ensures.touched

pub wait_both-waiting-requires : goal.wait_both-waiting-requires
wait_both-waiting-requires c = open_wait c.requires c.reserve_both.ensures c.mark_given.ensures

pub returns-in_err-words : goal.returns-in_err-words
returns-in_err-words c = let A = c.requires in rw c.from_residual.ensures (begins_over A.opens c.reserve_both.ensures A.room c.in_err-words.was)

pub returns : goal.returns
returns c = let A = c.requires in begins_ready A.opens c.reserve_both.ensures A.room c.mark_given.ensures c.wait_both-waiting.ensures _ c.in_ok-words.was
