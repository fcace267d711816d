use mathlib.Core.Path.{refl}
use native.Mathlib.Omega.{arith}
use Rattle.records.proofs.Walks.{Stepped, stepped, walked}
use Rattle.checks.proofs.Laws.Passed.{read_stands}
use Rattle.reservation_count.proofs.Laws.Chains.{chaining_none, chaining_at, chaining_more, chaining_done}
use Rattle.reservation_count.proofs.chains.chain_all.Goals as goal
use Rattle.reservation_count.proofs.chains.chain_all.Goals.{In-Some}

step : (c : In-Some) → Stepped c.args.records.now c.loop-at.at-iterator c.in-Some.at c.next.new.self
step c = stepped _ _ c.loop-at.invariant.0 c.in-Some.ensures.steps

pub loop-at-init : goal.loop-at-init
loop-at-init c =
    let i = c.into_iter-at-iterator.ensures.into_iter_gives in
    let s = c.starts-at-items.ensures in
    (rw i s.records, rw (i, s.at) (chaining_none _ _ _ c.requires))

pub chain_record-memories-requires : goal.chain_record-memories-requires
chain_record-memories-requires c = let s = step (goal.at.chain_record-memories-requires c).In-Some in
    rw s.start (chaining_at _ _ _ c.requires _ _ _ _ c.loop-at.invariant.1 (omega (arith, s.here.inside)))

pub loop-at-preserved : goal.loop-at-preserved
loop-at-preserved c =
    let s = step (goal.at.loop-at-preserved c).In-Some in
    let e = rw s.start at c.chain_record-memories.ensures in
    (s.same, rw s.next (chaining_more _ _ _ c.requires _ _ _ _ c.loop-at.invariant.1 (omega (arith, s.here.inside)) _ _ _ e _ refl))

pub returns : goal.returns
returns c = chaining_done _ _ _ c.requires _ _ _ _ c.loop-at.invariant.1 (walked _ _ c.loop-at.invariant.0 c.in-None.ensures.steps (read_stands _ _ _ c.loop-at.invariant.1.unread))
