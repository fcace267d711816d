-- `stage_levels::lift` meets its contract: a pin with a reverse level raises the pins followed from it. Assumes nothing.
use native.Mathlib.Omega.{arith}
use Rattle.stage_levels.proofs.Laws.Lifting.{lifted_none, lifted_leaf, lift_pins, lifted_both}
use Rattle.stage_levels.proofs.lift.Goals as goal

pub returns-then-r-eq0 : goal.returns-then-r-eq0
returns-then-r-eq0 c = record { all = λ C A. lifted_none A _ c.get-r.ensures c.if-r-eq0.true }

pub raise-requires : goal.raise-requires
raise-requires c =
    let s = c.requires in
    let l = lift_pins s.at _ c.get-r.ensures c.if-r-eq0.false _ _ (c.in-Some.ensures.all s.it s.at.reads) in
    record { p_in_bounds = omega (arith, l.0, s.at.reads.base.area.room); r_bound = omega (arith, s.at.low, c.get-r.ensures) }

pub raise-requires-in-Some : goal.raise-requires-in-Some
raise-requires-in-Some c =
    let s = c.requires in
    let l = lift_pins s.at _ c.get-r.ensures c.if-r-eq0.false _ _ (c.in-Some.ensures.all s.it s.at.reads) in
    record { p_in_bounds = omega (arith, l.1, s.at.reads.base.area.room, c.raise.auto); r_bound = omega (arith, s.at.low, c.get-r.ensures) }

pub returns-in_default : goal.returns-in_default
returns-in_default c = record { all = λ C A. lifted_leaf A _ c.get-r.ensures c.if-r-eq0.false (rw c.in_default.is at (c.followed.ensures.all C A.reads)) }

pub returns-in-Some : goal.returns-in-Some
returns-in-Some c = record {
  all = λ C A.
      lifted_both A _ c.get-r.ensures c.if-r-eq0.false _ _ (c.in-Some.ensures.all C A.reads) _ _ c.raise.ensures c.raise-in-Some.ensures;
}
