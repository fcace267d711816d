use native.Mathlib.Omega.{arith}
use Rattle.aiger_write.proofs.Laws.Lines.{lines_start, lines_next, lines_end, lines_size}
use Rattle.aiger_write.proofs.lines.gate_lines.Goals as goal

pub loop-p-init : goal.loop-p-init
loop-p-init c = (omega arith, lines_start)

pub loop-p-preserved : goal.loop-p-preserved
loop-p-preserved c = (omega arith, lines_next c.loop-p.invariant.1 c.gate_line-now.ensures)

pub shape_of-out : goal.shape_of-out
shape_of-out c = lines_size c.loop-p.invariant.1

pub returns : goal.returns
returns c = lines_end c.loop-p.invariant.1 (omega (arith, c.loop-p.invariant.0, c.loop-p-test.false, c.pin_count-pins.ensures))
