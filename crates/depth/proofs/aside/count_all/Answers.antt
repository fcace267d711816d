use mathlib.Core.Path.{refl}
use native.Mathlib.Omega.{arith}
use Rattle.records.proofs.Walks.{Stepped, stepped, walked}
use Rattle.checks.proofs.Laws.Passed.{read_stands}
use Rattle.placer_start.proofs.Laws.Reserving.{reserving_none, reserving_at}
use Rattle.depth.proofs.Laws.Aside.{counted_more, counted_all}
use Rattle.depth.proofs.aside.count_all.Goals as goal
use Rattle.depth.proofs.aside.count_all.Goals.{In-Some}

step : (c : In-Some) → Stepped c.args.records.now c.loop-at.at-iterator c.in-Some.at c.next.new.self
step c = stepped _ _ c.loop-at.invariant.0 c.in-Some.ensures.steps

pub loop-at-init : goal.loop-at-init
loop-at-init c =
    let i = c.into_iter-at-iterator.ensures.into_iter_gives in
    let s = c.starts-at-items.ensures in
    (rw i s.records, rw (i, s.at) (reserving_none c.requires _ c.default-count.ensures))

pub add_record-count-requires : goal.add_record-count-requires
add_record-count-requires c = let s = step (goal.at.add_record-count-requires c).In-Some in rw s.start (reserving_at c.requires c.loop-at.invariant.1 (omega (arith, s.here.inside)))

pub loop-at-preserved : goal.loop-at-preserved
loop-at-preserved c =
    let s = step (goal.at.loop-at-preserved c).In-Some in
    (s.same, rw s.next (counted_more c.requires c.loop-at.invariant.1 (omega (arith, s.here.inside)) (rw s.start at c.add_record-count.ensures) _ refl))

pub returns : goal.returns
returns c = counted_all c.requires c.loop-at.invariant.1 (walked _ _ c.loop-at.invariant.0 c.in-None.ensures.steps (read_stands _ _ _ c.loop-at.invariant.1.unread))
