use mathlib.Core.Path.{◌≡◌, ◌∙◌}
use Prim.Native.Nat.{◌+◌, ◌-◌}
use native.Mathlib.Omega.{arith}
use borrow.Author.Tests.{not-true, not-false}
use Rattle.merge_rounds.proofs.Laws.Into.{sizes_none, rounding_none, rounding_at, rounding_ranked, round_at, rounding_fails, rounding_more, rounding_done}
use Rattle.merge_rounds.proofs.merge_into.Goals as goal

pub loop-init : goal.loop-init
loop-init c = let z : c.args.fuel - 0 ≡ c.args.fuel = omega arith in (rw z (rounding_none c.requires), sizes_none)

pub rank_all-requires : goal.rank_all-requires
rank_all-requires c = rounding_at c.requires c.loop.invariant.0

pub round-outcome-requires : goal.round-outcome-requires
round-outcome-requires c = round_at c.requires c.loop.invariant.0 c.rank_all.ensures (omega arith)

pub shape_of-indices-then-not-outcome : goal.shape_of-indices-then-not-outcome
shape_of-indices-then-not-outcome c = c.round-outcome.auto.indices ∙ c.loop.invariant.1.indices

pub shape_of-lengths-then-not-outcome : goal.shape_of-lengths-then-not-outcome
shape_of-lengths-then-not-outcome c = c.round-outcome.auto.lengths ∙ c.loop.invariant.1.lengths

pub shape_of-plan-then-not-outcome : goal.shape_of-plan-then-not-outcome
shape_of-plan-then-not-outcome c = c.round-outcome.auto.plan ∙ c.loop.invariant.1.plan

pub shape_of-words-then-not-outcome : goal.shape_of-words-then-not-outcome
shape_of-words-then-not-outcome c = c.round-outcome.auto.words ∙ c.loop.invariant.1.words

pub shape_of-counts-then-not-outcome : goal.shape_of-counts-then-not-outcome
shape_of-counts-then-not-outcome c = c.round-outcome.auto.counts ∙ c.loop.invariant.1.counts

pub shape_of-work-then-not-outcome : goal.shape_of-work-then-not-outcome
shape_of-work-then-not-outcome c = c.round-outcome.auto.work ∙ c.rank_all.auto.work ∙ c.loop.invariant.1.work

pub returns-then-not-outcome : goal.returns-then-not-outcome
returns-then-not-outcome c = rounding_fails c.requires (rounding_ranked c.requires c.loop.invariant.0 c.rank_all.ensures) (omega arith) c.round-outcome.ensures (not-true _ c.if-not-outcome.true)

pub loop-preserved : goal.loop-preserved
loop-preserved c = let z : c.args.fuel - (c.loop.counter + 1) ≡ c.args.fuel - c.loop.counter - 1 = omega arith in (rw z (rounding_more c.requires (rounding_ranked c.requires c.loop.invariant.0 c.rank_all.ensures) (omega arith) c.round-outcome.ensures (not-false _ c.if-not-outcome.false)), record { indices = c.round-outcome.auto.indices ∙ c.loop.invariant.1.indices; lengths = c.round-outcome.auto.lengths ∙ c.loop.invariant.1.lengths; plan = c.round-outcome.auto.plan ∙ c.loop.invariant.1.plan; words = c.round-outcome.auto.words ∙ c.loop.invariant.1.words; counts = c.round-outcome.auto.counts ∙ c.loop.invariant.1.counts; work = c.round-outcome.auto.work ∙ c.rank_all.auto.work ∙ c.loop.invariant.1.work })

pub shape_of-indices : goal.shape_of-indices
shape_of-indices c = c.loop.invariant.1.indices

pub shape_of-lengths : goal.shape_of-lengths
shape_of-lengths c = c.loop.invariant.1.lengths

pub shape_of-plan : goal.shape_of-plan
shape_of-plan c = c.loop.invariant.1.plan

pub shape_of-words : goal.shape_of-words
shape_of-words c = c.loop.invariant.1.words

pub shape_of-counts : goal.shape_of-counts
shape_of-counts c = c.loop.invariant.1.counts

pub shape_of-work : goal.shape_of-work
shape_of-work c = c.loop.invariant.1.work

pub returns : goal.returns
returns c = rounding_done c.requires c.loop.invariant.0 (omega arith)
