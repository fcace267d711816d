use native.Mathlib.Omega.{arith}
use mathlib.Core.Path.{◌≡◌, sym, ◌∙◌}
use Rattle.aiger_write.proofs.Laws.Shape.{flips_start, flips_none, flips_more, flips_end}
use Rattle.aiger_write.proofs.jobs.shaped.Goals as goal

pub loop-i-init : goal.loop-i-init
loop-i-init c = flips_start _ _

pub returns-then-not-flip_at : goal.returns-then-not-flip_at
returns-then-not-flip_at c = flips_none c.loop-i.invariant c.loop-i-test.true (sym c.flip_at.ensures ∙ c.if-not-flip_at.true)

pub loop-i-preserved : goal.loop-i-preserved
loop-i-preserved c = flips_more c.loop-i.invariant c.loop-i-test.true (sym c.flip_at.ensures ∙ c.if-not-flip_at.false)

pub returns : goal.returns
returns c = let e : c.loop-i.i ≡ c.args.n = omega arith in c.outputs_only.ensures ∙ flips_end (rw e at c.loop-i.invariant)
