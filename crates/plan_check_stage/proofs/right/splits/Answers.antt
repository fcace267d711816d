-- `plan_check_stage::right::splits` meets its contract. Assumes nothing.
use native.Mathlib.Omega.{arith}
use borrow.Author.Tests.{ne_eqb}
use Rattle.rules.specs.Faults.{splits}
use Rattle.graph.specs.Values.{node_for}
use Rattle.plan_check_stage.proofs.Laws.Right.{inversion_small, splits_other, splits_first, splits_second}
use Rattle.plan_check_stage.proofs.right.splits.Goals as goal

pub and_of-right-requires : goal.and_of-right-requires
and_of-right-requires c = record { pin_bound = omega (arith, c.requires, c.pin.ensures); first_bound = inversion_small _ _ c.inversion_of.ensures; second_bound = inversion_small _ _ c.inversion_of-in-Gate.ensures }

pub returns-in-Leaf : goal.returns-in-Leaf
unfolding node_for splits
returns-in-Leaf c = rw c.in-Leaf.is

pub returns-then-cell-right : goal.returns-then-cell-right
unfolding node_for
returns-then-cell-right c = rw c.in-Gate.is (splits_other _ _ _ _ _ _ _ _ _ _ c.and_of-right.ensures c.pin.ensures c.inversion_of.ensures c.inversion_of-in-Gate.ensures c.if-cell-right.true)

pub returns-then-first-pin_of : goal.returns-then-first-pin_of
unfolding node_for
returns-then-first-pin_of c = rw c.in-Gate.is (splits_second _ _ _ _ _ _ _ _ _ _ c.and_of-right.ensures c.pin.ensures c.inversion_of.ensures c.inversion_of-in-Gate.ensures c.if-cell-right.false _ c.pin_of.ensures c.if-first-pin_of.true _ c.pin_of-then-first-pin_of.ensures)

pub returns-else-first-pin_of : goal.returns-else-first-pin_of
unfolding node_for
returns-else-first-pin_of c = rw (ne_eqb _ _ c.if-first-pin_of.false, c.in-Gate.is) (splits_first _ _ _ _ _ _ _ _ _ _ c.and_of-right.ensures c.pin.ensures c.inversion_of.ensures c.inversion_of-in-Gate.ensures c.if-cell-right.false _ c.pin_of.ensures c.if-first-pin_of.false)
