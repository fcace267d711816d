use Prim.Native.Nat.{ℕ, ◌<◌}
use mathlib.Core.Path.{ap}
use native.Mathlib.Omega.{arith}
use lib.ListN.{length, get_or}
use Rattle.records.proofs.Walks.{Stepped, stepped, walked}
use Rattle.checks.proofs.Laws.Passed.{read_stands}
use Rattle.replay_checks.proofs.Laws.Counts.{count_none, count_inside, count_more, count_done}
use Rattle.replay_checks.proofs.counts.count.Goals as goal
use Rattle.replay_checks.proofs.counts.count.Goals.{In-Some}

step : (c : In-Some) → Stepped c.args.records.now c.loop-at.at-iterator c.in-Some.at c.next.new.self
step c = stepped _ _ c.loop-at.invariant.0 c.in-Some.ensures.steps

more : (c : In-Some) → c.loop-at.at-iterator.at < length c.args.records.now
more c = omega (arith, (step c).here.inside)

pub loop-at-init : goal.loop-at-init
loop-at-init c =
    let i = c.into_iter-at-iterator.ensures.into_iter_gives in
    let s = c.starts-at-items.ensures in
    (rw i s.records, rw (i, s.at) (count_none _ c.requires))

pub offset_bounds-records-at : goal.offset_bounds-records-at
offset_bounds-records-at c = let d = (goal.at.offset_bounds-records-at c).In-Some in omega (arith, (step d).start, more d)

pub bounds-records-at : goal.bounds-records-at
bounds-records-at c = let d = (goal.at.bounds-records-at c).In-Some in rw (step d).start (more d)

pub more_if-memories-requires : goal.more_if-memories-requires
more_if-memories-requires c = let d = (goal.at.more_if-memories-requires c).In-Some in omega (arith, c.loop-at.invariant.1.memory_few, more d, c.requires.short)

pub more_if-flips-requires : goal.more_if-flips-requires
more_if-flips-requires c = let d = (goal.at.more_if-flips-requires c).In-Some in omega (arith, c.loop-at.invariant.1.flip_few, more d, c.requires.short)

pub overflow_add-bits : goal.overflow_add-bits
overflow_add-bits c = let d = (goal.at.overflow_add-bits c).In-Some in
    omega (arith, c.loop-at.invariant.1.bit_few, c.requires.short, count_inside _ c.requires _ _ _ _ c.loop-at.invariant.1 (more d) _ (rw (step d).start at c.size_at-bits.ensures))

pub loop-at-preserved : goal.loop-at-preserved
loop-at-preserved c =
    let d = (goal.at.loop-at-preserved c).In-Some in
    let e = rw (step d).start at c.size_at-bits.ensures in
    let k = ap (λ (i : ℕ). get_or c.args.records.now i 0) (step d).start in
    ((step d).same, rw ((step d).next, ← e) (count_more _ c.requires _ _ _ _ c.loop-at.invariant.1 (more d) _ e _ k _ _ c.more_if-memories.ensures c.more_if-flips.ensures))

pub returns : goal.returns
returns c =
    let w = walked _ _ c.loop-at.invariant.0 c.in-None.ensures.steps (read_stands _ _ _ c.loop-at.invariant.1.unread) in
    let t = count_done _ c.requires _ _ _ _ c.loop-at.invariant.1 w in
    record { memory = t.0; flip = t.1; bit = t.2 }
