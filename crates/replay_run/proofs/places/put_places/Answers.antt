use Prim.Native.Nat.{◌<◌}
use native.Mathlib.Omega.{arith}
use lib.ListN.{length}
use Rattle.records.proofs.Walks.{Stepped, stepped, walked}
use Rattle.checks.proofs.Laws.Passed.{read_stands}
use Rattle.replay_run.proofs.Laws.Places.{places_none, places_inside, record_in, places_more, places_done}
use Rattle.replay_run.proofs.places.put_places.Goals as goal
use Rattle.replay_run.proofs.places.put_places.Goals.{In-Some}

step : (c : In-Some) → Stepped c.args.records.now c.loop-at.at-iterator c.in-Some.at c.next.new.self
step c = stepped _ _ c.loop-at.invariant.0 c.in-Some.ensures.steps

more : (c : In-Some) → c.loop-at.at-iterator.at < length c.args.records.now
more c = omega (arith, (step c).here.inside)

pub loop-at-init : goal.loop-at-init
loop-at-init c =
    let i = c.into_iter-at-iterator.ensures.into_iter_gives in
    let s = c.starts-at-items.ensures in
    (rw i s.records, rw (i, s.at) (places_none _ _ _ c.requires))

pub put_record-requires : goal.put_record-requires
put_record-requires c =
    let d = (goal.at.put_record-requires c).In-Some in
    rw (step d).start (record_in _ _ _ c.requires _ _ _ c.loop-at.invariant.1 (more d) _ (rw (step d).start at c.size_at-size.ensures))

pub overflow_add-j : goal.overflow_add-j
overflow_add-j c =
    let d = (goal.at.overflow_add-j c).In-Some in
    omega (arith, c.loop-at.invariant.1.low, places_inside _ _ _ c.requires _ _ _ c.loop-at.invariant.1 (more d) _ (rw (step d).start at c.size_at-size.ensures))

pub loop-at-preserved : goal.loop-at-preserved
loop-at-preserved c =
    let d = (goal.at.loop-at-preserved c).In-Some in
    let e = rw (step d).start at c.size_at-size.ensures in
    ((step d).same, rw ((step d).next, ← e) (places_more _ _ _ c.requires _ _ _ c.loop-at.invariant.1 (more d) _ e _ (rw (step d).start at c.put_record.ensures)))

pub returns : goal.returns
returns c = places_done _ _ _ c.requires _ _ _ c.loop-at.invariant.1 (walked _ _ c.loop-at.invariant.0 c.in-None.ensures.steps (read_stands _ _ _ c.loop-at.invariant.1.unread))
