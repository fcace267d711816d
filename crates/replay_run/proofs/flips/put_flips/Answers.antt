use Prim.Native.Nat.{◌<◌}
use mathlib.Core.Path.{refl}
use native.Mathlib.Omega.{arith}
use lib.ListN.{length}
use Rattle.records.proofs.Walks.{Stepped, stepped, walked}
use Rattle.checks.proofs.Laws.Passed.{read_stands}
use Rattle.replay_run.proofs.Laws.Flips.{flips_none, flip_inside, flip_room, flip_low, flips_more, flips_done}
use Rattle.replay_run.proofs.flips.put_flips.Goals as goal
use Rattle.replay_run.proofs.flips.put_flips.Goals.{In-Some}

step : (c : In-Some) → Stepped c.args.records.now c.loop-at.at-iterator c.in-Some.at c.next.new.self
step c = stepped _ _ c.loop-at.invariant.0 c.in-Some.ensures.steps

more : (c : In-Some) → c.loop-at.at-iterator.at < length c.args.records.now
more c = omega (arith, (step c).here.inside)

pub loop-at-init : goal.loop-at-init
loop-at-init c =
    let i = c.into_iter-at-iterator.ensures.into_iter_gives in
    let s = c.starts-at-items.ensures in
    (rw i s.records, rw (i, s.at) (flips_none _ _ c.requires))

pub offset_bounds-records-at : goal.offset_bounds-records-at
offset_bounds-records-at c = let d = (goal.at.offset_bounds-records-at c).In-Some in omega (arith, (step d).start, more d)

pub bounds-records-at : goal.bounds-records-at
bounds-records-at c = let d = (goal.at.bounds-records-at c).In-Some in rw (step d).start (more d)

pub put_flip-n-requires : goal.put_flip-n-requires
put_flip-n-requires c = let d = (goal.at.put_flip-n-requires c).In-Some in
    record { n_in_bounds = flip_room _ _ c.requires _ _ _ _ c.loop-at.invariant.1 (more d); j_bound = flip_low _ _ c.requires _ _ _ _ c.loop-at.invariant.1 (more d) }

pub overflow_add-j : goal.overflow_add-j
overflow_add-j c = let d = (goal.at.overflow_add-j c).In-Some in
    omega (arith, c.loop-at.invariant.1.low, flip_inside _ _ c.requires _ _ _ _ c.loop-at.invariant.1 (more d) _ (rw (step d).start at c.size_at-j.ensures))

pub loop-at-preserved : goal.loop-at-preserved
loop-at-preserved c =
    let d = (goal.at.loop-at-preserved c).In-Some in
    let e = rw (step d).start at c.size_at-j.ensures in
    ((step d).same, rw ((step d).next, ← e) (flips_more _ _ c.requires _ _ _ _ c.loop-at.invariant.1 (more d) _ e _ _ (rw (step d).start at c.put_flip-n.ensures)))

pub returns : goal.returns
returns c = flips_done _ _ c.requires _ _ _ _ c.loop-at.invariant.1 (walked _ _ c.loop-at.invariant.0 c.in-None.ensures.steps (read_stands _ _ _ c.loop-at.invariant.1.unread))
