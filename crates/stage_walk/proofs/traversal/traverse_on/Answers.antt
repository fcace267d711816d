use mathlib.Core.Path.{refl}
use native.Mathlib.Omega.{arith}
use Rattle.stage_walk.proofs.traversal.Loops.{swept_none, visit_at, swept_more, went_on}
use borrow.Author.Rules.{rules}
use Rattle.stage_walk.proofs.traversal.traverse_on.Goals as goal

pub loop-i-init : goal.loop-i-init
loop-i-init c = (record { all = λ C A. swept_none A }, c.requires.at.upto, refl)

pub visit-listed-requires : goal.visit-listed-requires
visit-listed-requires c = let s = c.requires in record { it = s.it; at = visit_at s.at (c.loop-i.invariant.0.all s.it s.at) c.loop-i-test.true _ c.pin_at-p.ensures }

pub loop-i-preserved : goal.loop-i-preserved
loop-i-preserved c = (
  record {
    all = λ C A. let U = c.loop-i.invariant.0.all C A in
        swept_more A U c.loop-i-test.true _ c.pin_at-p.ensures (c.visit-listed.ensures.all C (visit_at A U c.loop-i-test.true _ c.pin_at-p.ensures));
  },
  omega arith,
  search rules,
)

pub returns : goal.returns
returns c = record { all = λ C A. went_on A (c.loop-i.invariant.0.all C A) (omega arith) }
