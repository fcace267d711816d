use mathlib.Core.Path.{sym, ◌∙◌}
use native.Mathlib.Omega.{arith}
use borrow.Author.Count.{below_more}
use Rattle.graph.proofs.Gates.{graph_length}
use Rattle.graph_loops.specs.Answers.{loop_for}
use Rattle.graph_loops.proofs.Laws.Searching.{search_found, search_nothing}
use borrow.Author.Rules.{rules}
use Rattle.graph_loops.proofs.search.Goals as goal

pub loop-p-init : goal.loop-p-init
loop-p-init c = (search rules, search rules, λ q h. absurd (omega arith))

pub returns-then-is_looped : goal.returns-then-is_looped
unfolding loop_for
returns-then-is_looped c = search_found _ _ _ (graph_length _) c.loop-p.invariant.2 (omega (arith, c.loop-p-test.true, c.loop-p.invariant.0)) (sym c.is_looped.ensures ∙ c.if-is_looped.true)

pub loop-p-preserved : goal.loop-p-preserved
loop-p-preserved c = (search rules, search rules, below_more _ _ c.loop-p.invariant.2 (sym c.is_looped.ensures ∙ c.if-is_looped.false))

pub returns : goal.returns
unfolding loop_for
returns c = search_nothing _ _ _ (graph_length _) c.loop-p.invariant.2 (omega (arith, c.loop-p-test.false, c.loop-p.invariant.0))
