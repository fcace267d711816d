use native.Mathlib.Omega.{arith}
use Rattle.stage_ending.proofs.Laws.Rest.{half_few, resting_none, resting_done, resting_pin, resting_full, resting_more}
use Rattle.stage_ending.proofs.rest.put_rest.Goals as goal

pub loop-i-init : goal.loop-i-init
loop-i-init c = record { all = λ C A. resting_none A }

pub put_pin-from-requires : goal.put_pin-from-requires
put_pin-from-requires c = record { it = _; at = resting_pin c.requires.at (c.loop-i.invariant.all _ c.requires.at) c.loop-i-test.true c.pin_at-p.ensures }

pub overflow_mul-half : goal.overflow_mul-half
overflow_mul-half c = omega (arith, half_few (resting_pin c.requires.at (c.loop-i.invariant.all _ c.requires.at) c.loop-i-test.true c.pin_at-p.ensures))

pub returns-then-half-from : goal.returns-then-half-from
returns-then-half-from c = record {
  all = λ C A. resting_full A (c.loop-i.invariant.all C A) c.loop-i-test.true c.pin_at-p.ensures
      (c.put_pin-from.ensures.all C (resting_pin A (c.loop-i.invariant.all C A) c.loop-i-test.true c.pin_at-p.ensures)) c.if-half-from.true;
}

pub loop-i-preserved : goal.loop-i-preserved
loop-i-preserved c = record {
  all = λ C A. resting_more A (c.loop-i.invariant.all C A) c.loop-i-test.true c.pin_at-p.ensures
      (c.put_pin-from.ensures.all C (resting_pin A (c.loop-i.invariant.all C A) c.loop-i-test.true c.pin_at-p.ensures)) c.if-half-from.false;
}

pub returns : goal.returns
returns c = record { all = λ C A. resting_done A (c.loop-i.invariant.all C A) c.loop-i-test.false }
