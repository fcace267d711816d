use mathlib.Core.Path.{refl}
use native.Mathlib.Omega.{arith}
use borrow.Author.Count.{below_more}
use borrow.Author.Tests.{not-false}
use Rattle.rules.proofs.Lists.Members.{true_false}
use borrow.Author.Rules.{rules}
use Rattle.graph_loops.proofs.all_rise.Goals as goal

pub loop-p-init : goal.loop-p-init
loop-p-init c = (search rules, search rules, λ q h. absurd (omega arith))

pub returns-then-not-rises : goal.returns-then-not-rises
returns-then-not-rises c = λ e. true_false e refl

pub loop-p-preserved : goal.loop-p-preserved
loop-p-preserved c = (search rules, search rules, below_more _ _ c.loop-p.invariant.2 (c.rises.ensures (not-false _ c.if-not-rises.false-raw)))

pub returns : goal.returns
returns c = λ e p h. c.loop-p.invariant.2 p (omega (arith, c.loop-p-test.false, c.loop-p.invariant.0))
