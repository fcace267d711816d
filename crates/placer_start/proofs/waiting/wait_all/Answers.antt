use mathlib.Core.Path.{refl}
use native.Mathlib.Omega.{arith}
use Rattle.records.proofs.Walks.{Stepped, stepped, walked}
use Rattle.checks.proofs.Laws.Passed.{read_stands}
use Rattle.placer_start.proofs.Laws.Waiting.{gathering_none, gathering_at, gathering_more, gathering_done}
use Rattle.placer_start.proofs.waiting.wait_all.Goals as goal
use Rattle.placer_start.proofs.waiting.wait_all.Goals.{In-Some}

step : (c : In-Some) → Stepped c.args.records.now c.loop-at.at-iterator c.in-Some.at c.next.new.self
step c = stepped _ _ c.loop-at.invariant.0 c.in-Some.ensures.steps

pub loop-at-init : goal.loop-at-init
loop-at-init c =
    let i = c.into_iter-at-iterator.ensures.into_iter_gives in
    let s = c.starts-at-items.ensures in
    (rw i s.records, rw (i, s.at) (gathering_none c.requires))

pub wait_record-n-requires : goal.wait_record-n-requires
wait_record-n-requires c = let s = step (goal.at.wait_record-n-requires c).In-Some in rw s.start (gathering_at c.requires c.loop-at.invariant.1 (omega (arith, s.here.inside)))

pub loop-at-preserved : goal.loop-at-preserved
loop-at-preserved c =
    let s = step (goal.at.loop-at-preserved c).In-Some in
    (s.same, rw s.next (gathering_more c.requires c.loop-at.invariant.1 (omega (arith, s.here.inside)) (rw s.start at c.wait_record-n.ensures) _ refl))

pub returns : goal.returns
returns c = gathering_done c.requires c.loop-at.invariant.1 (walked _ _ c.loop-at.invariant.0 c.in-None.ensures.steps (read_stands _ _ _ c.loop-at.invariant.1.unread))
