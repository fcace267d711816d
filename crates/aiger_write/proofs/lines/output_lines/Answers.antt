use native.Mathlib.Omega.{arith}
use Rattle.listing_lines.proofs.Laws.Laid.{laid_as}
use Rattle.aiger_write.proofs.Laws.Lines.{lines_start, lines_next, lines_end, lines_size, output_row}
use Rattle.aiger_write.proofs.lines.output_lines.Goals as goal

pub loop-i-init : goal.loop-i-init
loop-i-init c = (omega arith, lines_start)

pub loop-i-preserved : goal.loop-i-preserved
loop-i-preserved c = (omega arith, lines_next c.loop-i.invariant.1 (laid_as c.output_line-now.ensures (output_row c.args.records.now c.args.from c.loop-i.i)))

pub shape_of-out : goal.shape_of-out
shape_of-out c = lines_size c.loop-i.invariant.1

pub returns : goal.returns
returns c = lines_end c.loop-i.invariant.1 (omega (arith, c.loop-i.invariant.0, c.loop-i-test.false))
