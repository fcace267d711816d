use native.Mathlib.Omega.{arith}
use Prim.Native.Nat.{◌-◌}
use Rattle.listing_lines.proofs.Laws.Laid.{laid_size}
use Rattle.listing_lines.proofs.Laws.Lines.{spaced_start, spaced_next, spaced_all}
use Rattle.listing_lines.proofs.spaced.Goals as goal

pub loop-word-init : goal.loop-word-init
loop-word-init c = (omega arith, spaced_start)

pub loop-word-preserved : goal.loop-word-preserved
loop-word-preserved c = (omega arith, spaced_next c.args.words.now c.loop-word.word-index (omega (arith, c.loop-word-test.true)) c.loop-word.invariant.1 c.spaced_one-now.ensures)

pub shape_of-out : goal.shape_of-out
shape_of-out c = laid_size c.loop-word.invariant.1

pub returns : goal.returns
returns c = spaced_all c.args.words.now c.loop-word.word-index (omega (arith, c.loop-word-test.false)) c.loop-word.invariant.1
