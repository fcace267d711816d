use native.Mathlib.Omega.{arith}
use mathlib.Core.Path.{sym, ◌∙◌}
use Rattle.aiger_write.proofs.Laws.Lines.{count_start, count_in, count_out, count_end}
use Rattle.aiger_write.proofs.lines.count_inputs.Goals.{then-is_input, else-is_input}
use Rattle.aiger_write.proofs.lines.count_inputs.Goals as goal

pub loop-p-init : goal.loop-p-init
loop-p-init c = (omega arith, count_start)

pub loop-p-preserved : goal.loop-p-preserved
loop-p-preserved c = elim c.if-is_input.branch [
  | then-is_input w ↦ (omega arith, rw w.n-is (count_in c.loop-p.invariant.1 (sym c.is_input.ensures ∙ w.if-is_input.true)))
  | else-is_input w ↦ (omega arith, rw w.n-is (count_out c.loop-p.invariant.1 (sym c.is_input.ensures ∙ w.if-is_input.false)))
]

pub returns : goal.returns
returns c = count_end c.loop-p.invariant.1 (omega (arith, c.loop-p.invariant.0, c.loop-p-test.false, c.pin_count-pins.ensures))
