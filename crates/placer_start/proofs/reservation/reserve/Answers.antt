use Prim.Native.Nat.{◌<◌}
use mathlib.Core.Path.{refl}
use native.Mathlib.Omega.{arith}
use lib.ListN.{length}
use Rattle.records.proofs.Walks.{Stepped, stepped, walked}
use Rattle.checks.proofs.Laws.Passed.{read_stands}
use Rattle.placer_start.proofs.Laws.Reserving.{reserving_none, reserving_at, counted_small, reserving_over, reserving_more, reserving_done}
use Rattle.placer_start.proofs.reservation.reserve.Goals as goal
use Rattle.placer_start.proofs.reservation.reserve.Goals.{In-Some}

step : (c : In-Some) → Stepped c.args.records.now c.loop-at.at-iterator c.in-Some.at c.next.new.self
step c = stepped _ _ c.loop-at.invariant.0 c.in-Some.ensures.steps

more : (c : In-Some) → c.loop-at.at-iterator.at < length c.args.records.now
more c = omega (arith, (step c).here.inside)

pub loop-at-init : goal.loop-at-init
loop-at-init c =
    let i = c.into_iter-at-iterator.ensures.into_iter_gives in
    let s = c.starts-at-items.ensures in
    (rw i s.records, rw (i, s.at) (reserving_none c.requires _ c.default-count.ensures))

pub add_record-count-requires : goal.add_record-count-requires
add_record-count-requires c = let d = (goal.at.add_record-count-requires c).In-Some in rw (step d).start (reserving_at c.requires c.loop-at.invariant.1 (more d))

pub over-requires : goal.over-requires
over-requires c = let d = (goal.at.over-requires c).In-Some in counted_small c.requires c.loop-at.invariant.1 (more d) (rw (step d).start at c.add_record-count.ensures)

pub returns-then-over : goal.returns-then-over
returns-then-over c = let d = (goal.at.returns-then-over c).In-Some in
    reserving_over c.requires c.loop-at.invariant.1 (more d) (rw (step d).start at c.add_record-count.ensures) _ c.over.ensures c.if-over.true

pub loop-at-preserved : goal.loop-at-preserved
loop-at-preserved c =
    let d = (goal.at.loop-at-preserved c).In-Some in
    let e = rw (step d).start at c.add_record-count.ensures in
    ((step d).same, rw (step d).next (reserving_more c.requires c.loop-at.invariant.1 (more d) e _ c.over.ensures c.if-over.false _ refl))

pub returns : goal.returns
returns c = reserving_done c.requires c.loop-at.invariant.1 (walked _ _ c.loop-at.invariant.0 c.in-None.ensures.steps (read_stands _ _ _ c.loop-at.invariant.1.unread)) _ c.set_aside.ensures
