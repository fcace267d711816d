use native.Mathlib.Omega.{arith}
use mathlib.Core.Path.{◌≡◌, sym}
use Prim.Native.Nat.{◌-◌}
use Rattle.listing_lines.proofs.Laws.Laid.{laid_size}
use Rattle.listing_lines.proofs.Laws.Lines.{stages_start, stages_next, holds_one, stage_as, sum_add, sum_start}
use Rattle.listing_lines.proofs.stages_lines.Goals as goal

pub loop-k-init : goal.loop-k-init
loop-k-init c = (omega arith, sum_start c.args.counts.now, stages_start c.args.size c.args.plan.now c.args.words.now c.args.counts.now)

pub offset_bounds-counts-k : goal.offset_bounds-counts-k
offset_bounds-counts-k c = omega (arith, c.requires.counted, c.loop-k-test.true)

pub bounds-counts-k : goal.bounds-counts-k
bounds-counts-k c = omega (arith, c.requires.counted, c.loop-k-test.true)

pub next_stage-now-requires : goal.next_stage-now-requires
next_stage-now-requires c = holds_one c.requires c.loop-k.k c.loop-k-test.true c.loop-k.from c.wide-count.result (omega arith) c.loop-k.invariant.1 c.wide-count.ensures

pub overflow_add-from : goal.overflow_add-from
overflow_add-from c = omega (arith, (holds_one c.requires c.loop-k.k c.loop-k-test.true c.loop-k.from c.wide-count.result (omega arith) c.loop-k.invariant.1 c.wide-count.ensures).spent)

pub loop-k-preserved : goal.loop-k-preserved
loop-k-preserved c = let a = c.args in (omega arith, rw c.wide-count.ensures (sum_add a.counts.now c.loop-k.k c.loop-k.from (omega (arith, c.requires.counted)) c.loop-k.invariant.1), stages_next a.size c.loop-k.k a.plan.now a.words.now a.counts.now c.loop-k.invariant.2 (rw (sym (stage_as a.size c.loop-k.k c.loop-k.from c.wide-count.result a.plan.now a.words.now a.counts.now c.loop-k.invariant.1 c.wide-count.ensures)) at c.next_stage-now.ensures))

pub shape_of-out : goal.shape_of-out
shape_of-out c = laid_size c.loop-k.invariant.2

pub returns : goal.returns
returns c = let e : c.loop-k.k ≡ c.args.n = omega (arith, c.loop-k-test.false) in rw e at c.loop-k.invariant.2
