use native.Mathlib.Omega.{arith}
use mathlib.Core.Path.{◌≡◌}
use Prim.Native.Nat.{◌+◌, ◌-◌}
use Rattle.merge_rounds.proofs.Laws.Round.{trying_none, trying_best, trying_stuck, trying_try, trying_takes, trying_more, trying_ends}
use Rattle.merge_rounds.proofs.round.Goals as goal

pub loop-init : goal.loop-init
loop-init c = let z : c.args.ranks - 0 ≡ c.args.ranks = omega arith in rw z (trying_none c.requires)

pub best-requires : goal.best-requires
best-requires c = trying_best c.requires c.loop.invariant

pub returns-in_default : goal.returns-in_default
returns-in_default c = trying_stuck c.requires c.loop.invariant c.in_default.ensures

pub try_union-requires : goal.try_union-requires
try_union-requires c = trying_try c.requires c.loop.invariant c.in-Some.ensures

pub returns-then-try_union : goal.returns-then-try_union
returns-then-try_union c = trying_takes c.requires c.loop.invariant c.in-Some.ensures (omega arith) c.try_union.ensures c.if-try_union.true

pub loop-preserved : goal.loop-preserved
loop-preserved c = let z : c.args.ranks - (c.loop.counter + 1) ≡ c.args.ranks - c.loop.counter - 1 = omega arith in rw z (trying_more c.requires c.loop.invariant c.in-Some.ensures (omega arith) c.try_union.ensures c.if-try_union.false c.try_union.auto.words c.try_union.auto.counts c.try_union.auto.work)

pub returns : goal.returns
returns c = trying_ends c.requires c.loop.invariant (omega arith)
