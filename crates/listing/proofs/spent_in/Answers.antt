use native.Mathlib.Omega.{arith}
use Prim.Native.Nat.{◌-◌, ◌<◌}
use lib.Seq.{length-take-le}
use Rattle.std.proofs.lemmas.List.{get_or-take}
use Rattle.listing.proofs.Laws.Answered.{spent_over, spent_on, spent_start, spent_end}
use Rattle.listing.proofs.spent_in.Goals as goal
use Rattle.listing.proofs.spent_in.Goals.{After-wide-count}

inside : (c : After-wide-count) → c.loop-c.c-index < c.args.n
inside c = omega (arith, length-take-le c.args.n c.args.counts.now c.requires)

pub loop-c-init : goal.loop-c-init
loop-c-init c = (omega arith, spent_start c.args.counts.now c.args.most)

pub returns-then-count-left : goal.returns-then-count-left
returns-then-count-left c =
    let a = c.args in
    let h = inside (goal.at.returns-then-count-left c).After-wide-count in
    spent_over a.counts.now a.n a.most c.loop-c.left c.loop-c.c-index c.requires h c.loop-c.invariant.1 (omega (arith, c.wide-count.ensures, c.if-count-left.true, get_or-take a.n a.counts.now c.loop-c.c-index 0 h))

pub loop-c-preserved : goal.loop-c-preserved
loop-c-preserved c =
    let a = c.args in
    let h = inside (goal.at.loop-c-preserved c).After-wide-count in
    (omega arith, spent_on a.counts.now a.n a.most c.loop-c.left c.loop-c.c-index c.requires h c.loop-c.invariant.1 (c.loop-c.left - c.wide-count.result) (omega (arith, c.wide-count.ensures, c.if-count-left.false, get_or-take a.n a.counts.now c.loop-c.c-index 0 h)))

pub returns : goal.returns
returns c = let a = c.args in spent_end a.counts.now a.n a.most c.loop-c.left c.loop-c.c-index (omega (arith, c.loop-c-test.false, length-take-le a.n a.counts.now c.requires, c.loop-c.invariant.0)) c.loop-c.invariant.1
