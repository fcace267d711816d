-- `stage_walk::traversal::next_of` meets its contract: what is followed from a gate past phase 0 needs no test. Assumes nothing.
use mathlib.Core.Path.{◌≡◌}
use native.Mathlib.Omega.{arith}
use Rattle.stage_walk.proofs.Gates.{none_past, first_operand, gate_of, second_operand}
use Rattle.stage_walk.proofs.traversal.next_of.Goals as goal

pub returns-then-k-eq0 : goal.returns-then-k-eq0
returns-then-k-eq0 c = record { all = λ C A. first_operand C A.reads _ _ _ _ c.if-k-eq0.true (c.in_ok-first.ensures.all C A.reads) }

pub returns-then-k-ge2 : goal.returns-then-k-ge2
returns-then-k-ge2 c = record { all = λ C A. none_past C _ _ c.if-k-ge2.true }

pub returns : goal.returns
returns c = record {
  all = λ C A.
      let g = gate_of C A.reads _ A.pin (let n : (c.args.k ≡ 0 → ⊥) = c.if-k-eq0.false in omega (arith, A.most)) in
      second_operand C A.reads _ A.pin _ _ c.if-k-ge2.false c.if-k-eq0.false g.0 g.1 (rw c.index.ensures at c.operand.ensures);
}
