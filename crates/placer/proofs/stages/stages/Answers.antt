use Rattle.placer.proofs.Laws.Course.{none_filled, cells_within, next_at, room_within, rooms_nine, refused_told, no_pin, whole_told, whole_stands}
use native.Mathlib.Omega.{arith}
use mathlib.Core.Path.{refl}
use Rattle.placer.proofs.stages.stages.Goals as goal

pub overflow_sub-tally : goal.overflow_sub-tally
overflow_sub-tally c = room_within c.requires.at

pub loop-left-init : goal.loop-left-init
loop-left-init c = (record { all = λ C A. A }, refl, refl, refl, refl, record { within = omega arith; spent = omega arith; small = omega (arith, c.well_formed.1.1.0.1) }, omega (arith, room_within c.requires.at), none_filled c.requires.at refl)

pub returns-then-k-rooms : goal.returns-then-k-rooms
returns-then-k-rooms c = record { all = λ C A. let I = c.loop-left.invariant in record { kept = record { plan = I.1; words = I.2; counts = I.3; work = I.4 }; reply = refused_told C _ _ refl (rooms_nine (I.0.all C A) c.loop-left-test.true c.if-k-rooms.true); whole = tt } }

pub next_stage-requires : goal.next_stage-requires
next_stage-requires c = let s = c.requires in (c.loop-left.invariant.5, record { it = s.it; at = next_at (c.loop-left.invariant.0.all s.it s.at) c.loop-left.invariant.6 c.loop-left-test.true c.if-k-rooms.false })

pub returns-in-Err : goal.returns-in-Err
returns-in-Err c = record {
  all = λ C A.
      let I = c.loop-left.invariant in
      let O = c.in-Err.ensures.all C (next_at (I.0.all C A) I.6 c.loop-left-test.true c.if-k-rooms.false) in
      record { kept = record { plan = omega (arith, I.1, O.kept.plan); words = omega (arith, I.2, O.kept.words); counts = omega (arith, I.3, O.kept.counts); work = omega (arith, I.4, O.kept.work) }; reply = rw c.from.ensures (refused_told C _ _ (no_pin c.in-Err.stopped) O.refused); whole = tt };
}

pub overflow_add-cells : goal.overflow_add-cells
overflow_add-cells c = let s = c.requires in let I = c.loop-left.invariant in let A = I.0.all s.it s.at in let O = c.in-Ok.ensures.all s.it (next_at A I.6 c.loop-left-test.true c.if-k-rooms.false) in omega (arith, cells_within O I.7, I.1, c.well_formed.1.0.0)

pub returns : goal.returns
returns c = record { all = λ C A. let I = c.loop-left.invariant in let B = I.0.all C A in record { kept = record { plan = I.1; words = I.2; counts = I.3; work = I.4 }; reply = whole_told B (omega (arith, c.loop-left-test.false)) I.7; whole = whole_stands B (omega (arith, c.loop-left-test.false)) } }
