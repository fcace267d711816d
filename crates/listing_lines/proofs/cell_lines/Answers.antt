use native.Mathlib.Omega.{arith}
use Prim.Native.Nat.{◌-◌}
use Rattle.listing_lines.proofs.Laws.Laid.{laid_size}
use Rattle.listing_lines.proofs.Laws.Lines.{cells_start, cells_next, cells_all}
use Rattle.listing_lines.proofs.cell_lines.Goals as goal

pub loop-p-init : goal.loop-p-init
loop-p-init c = (omega arith, cells_start)

pub loop-p-preserved : goal.loop-p-preserved
loop-p-preserved c = (omega arith, cells_next c.args.cells.now c.loop-p.p (omega (arith, c.loop-p-test.true)) c.loop-p.invariant.1 c.cell_line-now.ensures)

pub shape_of-out : goal.shape_of-out
shape_of-out c = laid_size c.loop-p.invariant.1

pub returns : goal.returns
returns c = cells_all c.args.cells.now c.loop-p.p (omega (arith, c.loop-p-test.false)) c.loop-p.invariant.1
