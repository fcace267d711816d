-- `merge_unions::reservation::reserve_both` meets its contract: the first list, then the second behind it. Assumes nothing.
use Rattle.merge_unions.proofs.Laws.Reserving.{both_first, both_over, both_second, both_over_2, both_few, both_words}
use Rattle.merge_unions.proofs.reservation.reserve_both.Goals as goal

pub reserve_part-requires : goal.reserve_part-requires
reserve_part-requires c = record { it = _; at = both_first c.requires _ c.default-none.ensures }

pub reserve_part-requires-2 : goal.reserve_part-requires-2
reserve_part-requires-2 c = let A = c.requires in record { it = _; at = both_second A (c.reserve_part.ensures.all _ (both_first A _ c.default-none.ensures)) c.in_ok-one.was }

pub set_aside-requires : goal.set_aside-requires
set_aside-requires c = let A = c.requires in let P = c.reserve_part.ensures.all _ (both_first A _ c.default-none.ensures) in let e = c.in_ok-one.was in both_few A P e (c.reserve_part-2.ensures.all _ (both_second A P e)) c.in_ok-both.was

pub returns-in_err-one : goal.returns-in_err-one
returns-in_err-one c = let A = c.requires in rw c.from_residual.ensures (both_over A (c.reserve_part.ensures.all _ (both_first A _ c.default-none.ensures)) c.in_err-one.was)

pub returns-in_err-both : goal.returns-in_err-both
returns-in_err-both c = let A = c.requires in let P = c.reserve_part.ensures.all _ (both_first A _ c.default-none.ensures) in let e = c.in_ok-one.was in rw c.from_residual-in_err-both.ensures (both_over_2 A P e (c.reserve_part-2.ensures.all _ (both_second A P e)) c.in_err-both.was)

pub returns : goal.returns
returns c = let A = c.requires in let P = c.reserve_part.ensures.all _ (both_first A _ c.default-none.ensures) in let e = c.in_ok-one.was in both_words A P e (c.reserve_part-2.ensures.all _ (both_second A P e)) c.in_ok-both.was _ c.set_aside.ensures
