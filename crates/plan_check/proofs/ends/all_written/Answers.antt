use Prim.Native.Nat.{◌<◌}
use mathlib.Core.Path.{refl}
use native.Mathlib.Omega.{arith}
use lib.ListN.{length}
use Rattle.records.proofs.Walks.{Stepped, stepped, walked}
use Rattle.checks.proofs.Laws.Passed.{read_stands}
use Rattle.plan_check.proofs.Laws.Ends.{ends_none, ends_at, ends_missing, ends_more, ends_done}
use Rattle.plan_check.proofs.ends.all_written.Goals as goal
use Rattle.plan_check.proofs.ends.all_written.Goals.{In-Some}

step : (c : In-Some) → Stepped c.args.records.now c.loop-at.at-iterator c.in-Some.at c.next.new.self
step c = stepped _ _ c.loop-at.invariant.0 c.in-Some.ensures.steps

more : (c : In-Some) → c.loop-at.at-iterator.at < length c.args.records.now
more c = omega (arith, (step c).here.inside)

pub loop-at-init : goal.loop-at-init
loop-at-init c =
    let i = c.into_iter-at-iterator.ensures.into_iter_gives in
    let s = c.starts-at-items.ensures in
    (rw i s.records, rw (i, s.at) (ends_none _ _ c.requires))

pub record_written-requires : goal.record_written-requires
record_written-requires c = let d = (goal.at.record_written-requires c).In-Some in rw (step d).start (ends_at _ _ c.requires _ c.loop-at.invariant.1 (more d))

pub returns-then-not-record_written : goal.returns-then-not-record_written
returns-then-not-record_written c = let d = (goal.at.returns-then-not-record_written c).In-Some in
    ends_missing _ _ c.requires _ c.loop-at.invariant.1 (more d) _ (rw (step d).start at c.record_written.ensures) c.if-not-record_written.true

pub loop-at-preserved : goal.loop-at-preserved
loop-at-preserved c =
    let d = (goal.at.loop-at-preserved c).In-Some in
    let e = rw (step d).start at c.record_written.ensures in
    ((step d).same, rw (step d).next (ends_more _ _ c.requires _ c.loop-at.invariant.1 (more d) _ e c.if-not-record_written.false _ refl))

pub returns : goal.returns
returns c = ends_done _ _ c.requires _ c.loop-at.invariant.1 (walked _ _ c.loop-at.invariant.0 c.in-None.ensures.steps (read_stands _ _ _ c.loop-at.invariant.1.unread))
