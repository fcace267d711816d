use borrow.Author.Tests.{eqb-true}
use Rattle.coding.proofs.Laws.{counted_none, counted_more, counted_less, counted_all}
use Rattle.coding.proofs.blank.Goals as goal
use Rattle.coding.proofs.blank.Goals.{then-cells-p, else-cells-p}

pub loop-i-init : goal.loop-i-init
loop-i-init c = counted_none _ _

pub loop-i-preserved : goal.loop-i-preserved
loop-i-preserved c = elim c.if-cells-p.branch [
  | then-cells-p w ↦ rw w.n-is (counted_more _ _ _ _ c.loop-i.invariant c.loop-i-test.true w.if-cells-p.true)
  | else-cells-p w ↦ rw w.n-is (counted_less _ _ _ _ c.loop-i.invariant c.loop-i-test.true)
]

pub returns : goal.returns
returns c = counted_all _ _ _ _ c.loop-i.invariant c.loop-i-test.false _ (λ t. eqb-true _ _ t)
