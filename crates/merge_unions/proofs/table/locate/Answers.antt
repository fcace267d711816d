use mathlib.Core.Path.{refl}
use native.Mathlib.Omega.{arith}
use Rattle.records.proofs.Walks.{Stepped, stepped, walked}
use Rattle.checks.proofs.Laws.Passed.{read_stands}
use Rattle.merge_unions.proofs.Laws.Table.{locating_none, locating_more, locating_done}
use Rattle.merge_unions.proofs.table.locate.Goals as goal
use Rattle.merge_unions.proofs.table.locate.Goals.{In-Some}

step : (c : In-Some) → Stepped c.args.records.now c.loop-at.at-iterator c.in-Some.at c.next.new.self
step c = stepped _ _ c.loop-at.invariant.0 c.in-Some.ensures.steps

pub loop-at-init : goal.loop-at-init
loop-at-init c =
    let i = c.into_iter-at-iterator.ensures.into_iter_gives in
    let s = c.starts-at-items.ensures in
    (rw i s.records, rw (i, s.at) (locating_none c.requires))

pub overflow_cast-work : goal.overflow_cast-work
overflow_cast-work c = let s = step (goal.at.overflow_cast-work c).In-Some in omega (arith, s.start, s.here.inside, c.requires.short)

pub loop-at-preserved : goal.loop-at-preserved
loop-at-preserved c =
    let s = step (goal.at.loop-at-preserved c).In-Some in
    (s.same, rw (s.start, s.next) (locating_more c.requires c.loop-at.invariant.1 (omega (arith, s.here.inside)) refl _ refl))

pub returns : goal.returns
returns c = locating_done c.requires c.loop-at.invariant.1 (walked _ _ c.loop-at.invariant.0 c.in-None.ensures.steps (read_stands _ _ _ c.loop-at.invariant.1.unread))
