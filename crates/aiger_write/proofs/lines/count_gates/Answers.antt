use native.Mathlib.Omega.{arith}
use mathlib.Core.Path.{sym, ◌∙◌}
use Rattle.aiger_write.proofs.Laws.Lines.{count_start, count_in, count_out, count_end}
use Rattle.aiger_write.proofs.lines.count_gates.Goals.{then-is_gate, else-is_gate}
use Rattle.aiger_write.proofs.lines.count_gates.Goals as goal

pub loop-p-init : goal.loop-p-init
loop-p-init c = (omega arith, count_start)

pub loop-p-preserved : goal.loop-p-preserved
loop-p-preserved c = elim c.if-is_gate.branch [
  | then-is_gate w ↦ (omega arith, rw w.n-is (count_in c.loop-p.invariant.1 (sym c.is_gate.ensures ∙ w.if-is_gate.true)))
  | else-is_gate w ↦ (omega arith, rw w.n-is (count_out c.loop-p.invariant.1 (sym c.is_gate.ensures ∙ w.if-is_gate.false)))
]

pub returns : goal.returns
returns c = count_end c.loop-p.invariant.1 (omega (arith, c.loop-p.invariant.0, c.loop-p-test.false, c.pin_count-pins.ensures))
