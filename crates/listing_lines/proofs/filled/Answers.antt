use native.Mathlib.Omega.{arith}
use Prim.Native.Nat.{◌-◌}
use Rattle.listing_lines.proofs.Laws.Lines.{count_start, count_in, count_out, count_all}
use Rattle.listing_lines.proofs.filled.Goals.{then-c, else-c}
use Rattle.listing_lines.proofs.filled.Goals as goal

pub loop-c-init : goal.loop-c-init
loop-c-init c = (omega arith, omega arith, count_start c.args.cells.now)

pub loop-c-preserved : goal.loop-c-preserved
loop-c-preserved c = elim c.if-c.branch [
  | then-c w ↦ (omega arith, omega arith, rw w.n-is (count_in c.args.cells.now c.loop-c.c-index c.loop-c.n (omega (arith, c.loop-c-test.true)) c.loop-c.invariant.2 w.if-c.true))
  | else-c w ↦ (omega arith, omega arith, rw w.n-is (count_out c.args.cells.now c.loop-c.c-index c.loop-c.n (omega (arith, c.loop-c-test.true)) c.loop-c.invariant.2 w.if-c.false))
]

pub returns : goal.returns
returns c = count_all c.args.cells.now c.loop-c.c-index c.loop-c.n (omega (arith, c.loop-c-test.false)) c.loop-c.invariant.2
