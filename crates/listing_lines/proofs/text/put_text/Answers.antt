use Rattle.listing_lines.proofs.Laws.Laid.{laid_size}
use native.Mathlib.Omega.{arith}
use Prim.Native.Nat.{◌-◌}
use Rattle.listing_lines.proofs.Laws.Laid.{laid_none, laid_byte, laid_bytes}
use Rattle.listing_lines.proofs.text.put_text.Goals as goal

pub loop-b-init : goal.loop-b-init
loop-b-init c = (omega arith, laid_none)

pub loop-b-preserved : goal.loop-b-preserved
loop-b-preserved c = (omega arith, laid_byte c.args.text.now c.loop-b.b-index (omega (arith, c.loop-b-test.true)) c.loop-b.invariant.1 c.put-now.ensures)

pub shape_of-out : goal.shape_of-out
shape_of-out c = laid_size c.loop-b.invariant.1

pub returns : goal.returns
returns c = laid_bytes c.args.text.now c.loop-b.b-index (omega (arith, c.loop-b-test.false)) c.loop-b.invariant.1
