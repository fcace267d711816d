use mathlib.Core.Path.{refl, ◌∙◌}
use native.Mathlib.Omega.{arith}
use Rattle.stage_tally.proofs.Laws.Tests.{counted_more, bound_same, spent_more}
use Rattle.placer.proofs.Laws.Course.{none_filled, still_rooms, spent_within, room_small, room_within}
use Rattle.explain_stages.proofs.Laws.All.{tell_at, told_nine, told_whole, told_refused, all_on, cells_told}
use borrow.Author.Rules.{rules}
use Rattle.explain_stages.proofs.tell.Goals as goal

pub overflow_sub-tally : goal.overflow_sub-tally
overflow_sub-tally c = room_within c.requires.at.stands

pub loop-left-init : goal.loop-left-init
loop-left-init c = (record { all = λ C A. A }, refl, refl, refl, refl, refl, record { within = omega arith; spent = omega arith; small = omega (arith, c.well_formed.1.1.0.1) }, omega (arith, room_within c.requires.at.stands), none_filled c.requires.at.stands refl)

pub overflow_add-result : goal.overflow_add-result
overflow_add-result c = let s = c.requires in let A = c.loop-left.invariant.0.all s.it s.at in omega (arith, A.stands.now.few, A.stands.all, A.stands.short)

pub returns-then-k-rooms : goal.returns-then-k-rooms
returns-then-k-rooms c = record { all = λ C A. let I = c.loop-left.invariant in told_nine (I.0.all C A) c.loop-left-test.true c.if-k-rooms.true (record { plan = I.1; words = I.2; counts = I.3; work = I.4 }) }

pub tell_stage-step-requires : goal.tell_stage-step-requires
tell_stage-step-requires c = let s = c.requires in let I = c.loop-left.invariant in (I.6, record { it = s.it; at = tell_at (I.0.all s.it s.at) I.7 c.loop-left-test.true c.if-k-rooms.false })

pub overflow_add-result-in-Err : goal.overflow_add-result-in-Err
overflow_add-result-in-Err c = let s = c.requires in let A = c.loop-left.invariant.0.all s.it s.at in omega (arith, still_rooms A.stands c.loop-left-test.true c.if-k-rooms.false, c.ranges.rooms)

pub returns-in-Err : goal.returns-in-Err
returns-in-Err c = record { all = λ C A. let I = c.loop-left.invariant in let B = I.0.all C A in let T = c.tell_stage-step.ensures.all C (tell_at B I.7 c.loop-left-test.true c.if-k-rooms.false) in rw c.from.ensures (told_refused B T c.in-Err.is (record { plan = omega (arith, I.1, T.kept.plan); words = omega (arith, I.2, T.kept.words); counts = omega (arith, I.3, T.kept.counts); work = omega (arith, I.4, T.kept.work) })) }

pub spend-tally-requires : goal.spend-tally-requires
spend-tally-requires c = let s = c.requires in let I = c.loop-left.invariant in let A = I.0.all s.it s.at in let T = c.tell_stage-step.ensures.all s.it (tell_at A I.7 c.loop-left-test.true c.if-k-rooms.false) in let B = all_on A T c.in-Ok.is refl in omega (arith, spent_within B.stands, room_small B.stands)

pub overflow_add-cells : goal.overflow_add-cells
overflow_add-cells c = let s = c.requires in let I = c.loop-left.invariant in let A = I.0.all s.it s.at in let T = c.tell_stage-step.ensures.all s.it (tell_at A I.7 c.loop-left-test.true c.if-k-rooms.false) in omega (arith, cells_told A T c.in-Ok.is I.8, I.1, c.well_formed.1.0.0)

pub overflow_add-k : goal.overflow_add-k
overflow_add-k c = let s = c.requires in let A = c.loop-left.invariant.0.all s.it s.at in omega (arith, A.stands.now.few, A.stands.all, A.stands.short)

pub loop-left-smaller : goal.loop-left-smaller
loop-left-smaller c = let s = c.requires in let A = c.loop-left.invariant.0.all s.it s.at in omega (arith, still_rooms A.stands c.loop-left-test.true c.if-k-rooms.false)

pub loop-left-preserved : goal.loop-left-preserved
loop-left-preserved c = let s = c.requires in let I = c.loop-left.invariant in let A = I.0.all s.it s.at in let T = c.tell_stage-step.ensures.all s.it (tell_at A I.7 c.loop-left-test.true c.if-k-rooms.false) in let B = all_on A T c.in-Ok.is refl in (record { all = λ C A. let B = I.0.all C A in all_on B (c.tell_stage-step.ensures.all C (tell_at B I.7 c.loop-left-test.true c.if-k-rooms.false)) c.in-Ok.is (spent_more I.6 _ c.spend-tally.ensures) }, search rules, search rules, search rules, search rules, search rules, counted_more I.6 _ c.spend-tally.ensures (omega (arith, spent_within B.stands, I.7)), bound_same I.6 _ c.spend-tally.ensures ∙ I.7, omega (arith, I.8, rw c.in-Ok.is at T.more))

pub returns : goal.returns
returns c = record { all = λ C A. let I = c.loop-left.invariant in told_whole (I.0.all C A) (omega (arith, c.loop-left-test.false)) I.8 (record { plan = I.1; words = I.2; counts = I.3; work = I.4 }) }
