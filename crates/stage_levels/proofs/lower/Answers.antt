use mathlib.Core.Path.{refl}
use native.Mathlib.Omega.{arith}
use Rattle.stage_levels.proofs.Laws.Lifting.{lowered_none, lift_at, lowered_more, lowered_end}
use borrow.Author.Rules.{rules}
use Rattle.stage_levels.proofs.lower.Goals as goal

pub loop-i-init : goal.loop-i-init
loop-i-init c = (record { all = λ C A. lowered_none A }, omega arith, refl)

pub lift-requires : goal.lift-requires
lift-requires c = let s = c.requires in record { it = s.it; at = lift_at s.at (c.loop-i.invariant.0.all s.it s.at) c.loop-i-test.true c.loop-i.invariant.1 _ c.pin_at-p.ensures }

pub loop-i-preserved : goal.loop-i-preserved
loop-i-preserved c = (
  record {
    all = λ C A. let U = c.loop-i.invariant.0.all C A in lowered_more A U c.loop-i-test.true c.loop-i.invariant.1 _ c.pin_at-p.ensures
        (c.lift.ensures.all C (lift_at A U c.loop-i-test.true c.loop-i.invariant.1 _ c.pin_at-p.ensures));
  },
  omega arith,
  search rules,
)

pub returns : goal.returns
returns c = record { all = λ C A. lowered_end A (c.loop-i.invariant.0.all C A) c.loop-i-test.false }
