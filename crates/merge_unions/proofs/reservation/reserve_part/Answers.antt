use Rattle.merge_unions.proofs.Laws.Names.{name_there}
use Rattle.merge_unions.proofs.Laws.Reserving.{counting_none, counting_names, counting_at, counted_few, counting_over, counting_more, counting_done}
use Rattle.merge_unions.proofs.reservation.reserve_part.Goals as goal

pub loop-i-init : goal.loop-i-init
loop-i-init c = record { all = λ xs A. counting_none A }

pub start_of-at-requires : goal.start_of-at-requires
start_of-at-requires c = let S = c.requires in name_there (counting_names S.at (c.loop-i.invariant.all S.it S.at)) c.loop-i-test.true

pub add_record-c-requires : goal.add_record-c-requires
add_record-c-requires c = let S = c.requires in record { it = _; at = counting_at S.at (c.loop-i.invariant.all S.it S.at) c.loop-i-test.true c.start_of-at.ensures }

pub over-requires : goal.over-requires
over-requires c = let S = c.requires in let C = c.loop-i.invariant.all S.it S.at in counted_few S.at C c.loop-i-test.true c.start_of-at.ensures (c.add_record-c.ensures.all _ (counting_at S.at C c.loop-i-test.true c.start_of-at.ensures))

pub shape_of-work-then-over : goal.shape_of-work-then-over
shape_of-work-then-over c = let S = c.requires in let C = c.loop-i.invariant.all S.it S.at in (counting_over S.at C c.loop-i-test.true c.start_of-at.ensures (c.add_record-c.ensures.all _ (counting_at S.at C c.loop-i-test.true c.start_of-at.ensures)) c.over.ensures c.if-over.true).touched.frame.len

pub returns-then-over : goal.returns-then-over
returns-then-over c = record { all = λ xs A. let C = c.loop-i.invariant.all xs A in counting_over A C c.loop-i-test.true c.start_of-at.ensures (c.add_record-c.ensures.all _ (counting_at A C c.loop-i-test.true c.start_of-at.ensures)) c.over.ensures c.if-over.true }

pub loop-i-preserved : goal.loop-i-preserved
loop-i-preserved c = record { all = λ xs A. let C = c.loop-i.invariant.all xs A in counting_more A C c.loop-i-test.true c.start_of-at.ensures (c.add_record-c.ensures.all _ (counting_at A C c.loop-i-test.true c.start_of-at.ensures)) c.over.ensures c.if-over.false }

pub shape_of-work : goal.shape_of-work
shape_of-work c = let S = c.requires in (c.loop-i.invariant.all S.it S.at).touched.frame.len

pub returns : goal.returns
returns c = record { all = λ xs A. counting_done A (c.loop-i.invariant.all xs A) c.loop-i-test.false }
