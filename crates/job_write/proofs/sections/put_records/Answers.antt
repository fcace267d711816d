use Prim.Native.Nat.{◌<◌}
use native.Mathlib.Omega.{arith}
use lib.ListN.{length}
use Rattle.records.proofs.Walks.{Stepped, stepped, walked}
use Rattle.job_write.proofs.Laws.Sections.{records_none, records_next, records_to, records_more, records_done}
use Rattle.job_write.proofs.sections.put_records.Goals as goal
use Rattle.job_write.proofs.sections.put_records.Goals.{In-Some}

step : (c : In-Some) → Stepped c.args.records.now c.loop-i.i-iterator c.in-Some.i c.next.new.self
step c = stepped _ _ c.loop-i.invariant.0 c.in-Some.ensures.steps

more : (c : In-Some) → c.loop-i.i-iterator.at < length c.args.records.now
more c = omega (arith, (step c).here.inside)

pub loop-i-init : goal.loop-i-init
loop-i-init c =
    let i = c.into_iter-i-iterator.ensures.into_iter_gives in
    let s = c.starts-i-items.ensures in
    (rw i s.records, rw (i, s.at) (records_none c.requires.readable))

pub offset_bounds-records-i : goal.offset_bounds-records-i
offset_bounds-records-i c = let d = (goal.at.offset_bounds-records-i c).In-Some in omega (arith, (step d).start, more d, c.well_formed)

pub bounds-records-i : goal.bounds-records-i
bounds-records-i c = let d = (goal.at.bounds-records-i c).In-Some in rw (step d).start (more d)

pub overflow_add-i : goal.overflow_add-i
overflow_add-i c = let d = (goal.at.overflow_add-i c).In-Some in omega (arith, c.well_formed, (step d).start, more d)

pub overflow_add-i-in-loop-i : goal.overflow_add-i-in-loop-i
overflow_add-i-in-loop-i c = let d = (goal.at.overflow_add-i-in-loop-i c).In-Some in omega (arith, c.well_formed, (step d).start, more d)

pub overflow_add-i-in-loop-i-2 : goal.overflow_add-i-in-loop-i-2
overflow_add-i-in-loop-i-2 c = let d = (goal.at.overflow_add-i-in-loop-i-2 c).In-Some in
    omega (arith, c.well_formed, (step d).start, rw (step d).start at c.size_at-size.ensures, (step d).here.inside)

pub offset_bounds-records-i-in-loop-i : goal.offset_bounds-records-i-in-loop-i
offset_bounds-records-i-in-loop-i c = let d = (goal.at.offset_bounds-records-i-in-loop-i c).In-Some in omega (arith, (step d).start, more d, c.well_formed)

pub slice_bounds-put_record-end : goal.slice_bounds-put_record-end
slice_bounds-put_record-end c = let d = (goal.at.slice_bounds-put_record-end c).In-Some in
    omega (arith, (step d).start, rw (step d).start at c.size_at-size.ensures, (step d).here.inside)

pub put_record-at-requires : goal.put_record-at-requires
put_record-at-requires c = let d = (goal.at.put_record-at-requires c).In-Some in
    rw (step d).start (records_to c.loop-i.invariant.1 (more d) (rw (step d).start at c.size_at-size.ensures) c.requires.near)

pub loop-i-preserved : goal.loop-i-preserved
loop-i-preserved c =
    let d = (goal.at.loop-i-preserved c).In-Some in
    let e = rw (step d).start at c.size_at-size.ensures in
    ((step d).same, rw ((step d).next, ← e) (records_more c.loop-i.invariant.1 (more d) e (rw (step d).start at c.put_record-at.ensures)))

pub shape_of-bytes : goal.shape_of-bytes
shape_of-bytes c = c.loop-i.invariant.1.rest.len

pub returns : goal.returns
returns c = records_done c.loop-i.invariant.1 (walked _ _ c.loop-i.invariant.0 c.in-None.ensures.steps (λ h. (records_next c.loop-i.invariant.1 h).stands))
