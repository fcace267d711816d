-- `stage_needed::lacking` meets its contract: each way through it is a case of the definition. Assumes nothing.
use mathlib.Core.Path.{refl}
use native.Mathlib.Omega.{arith}
use borrow.Author.Tests.{ne_eqb}
use Rattle.stage_needed.proofs.Laws.Noting.{lack_one, lack_zero, lack_none, lack_both, lack_two}
use Rattle.stage_needed.proofs.lacking.Goals as goal

pub returns-then-h-eq1 : goal.returns-then-h-eq1
returns-then-h-eq1 c = record { all = λ C A. lack_one A _ c.get-h.ensures c.if-h-eq1.true }

pub returns-then-h-eq0 : goal.returns-then-h-eq0
returns-then-h-eq0 c = record { all = λ C A. lack_zero A _ c.get-h.ensures c.if-h-eq0.true _ c.is_in.ensures }

pub get-requires : goal.get-requires
get-requires c =
    let s = c.requires in
    let t = lack_both s.at _ c.get-h.ensures (omega (arith, c.if-h-eq1.false, c.if-h-eq0.false)) _ _ (c.in-Some.ensures.all s.it s.at.reads) in
    omega (arith, t.in_first, s.at.reads.base.area.room)

pub returns-in-None : goal.returns-in-None
returns-in-None c = record { all = λ C A. lack_none A _ c.get-h.ensures (omega (arith, c.if-h-eq1.false, c.if-h-eq0.false)) (c.in-None.ensures.all C A.reads) }

pub get-requires-else-get-eq0 : goal.get-requires-else-get-eq0
get-requires-else-get-eq0 c =
    let s = c.requires in
    let t = lack_both s.at _ c.get-h.ensures (omega (arith, c.if-h-eq1.false, c.if-h-eq0.false)) _ _ (c.in-Some.ensures.all s.it s.at.reads) in
    omega (arith, t.in_second, s.at.reads.base.area.room)

pub returns-then-get-eq0 : goal.returns-then-get-eq0
returns-then-get-eq0 c = record {
  all = λ C A.
      rw c.if-get-eq0.true (rw c.if-get-eq0.true at (lack_two A _ c.get-h.ensures (omega (arith, c.if-h-eq1.false, c.if-h-eq0.false)) _ _ (c.in-Some.ensures.all C A.reads) _ _ c.get.ensures refl));
}

pub returns-else-get-eq0 : goal.returns-else-get-eq0
returns-else-get-eq0 c = record {
  all = λ C A.
      rw (ne_eqb _ 0 c.if-get-eq0.false) at (lack_two A _ c.get-h.ensures (omega (
        arith,
        c.if-h-eq1.false,
        c.if-h-eq0.false,
      )) _ _ (c.in-Some.ensures.all C A.reads) _ _ c.get.ensures c.get-else-get-eq0.ensures);
}
