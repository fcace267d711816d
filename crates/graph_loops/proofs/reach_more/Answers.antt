use mathlib.Core.Path.{refl}
use native.Mathlib.Omega.{arith}
use Rattle.graph_loops.proofs.Laws.Reaching.{spread_none, spread_more, spread_end}
use borrow.Author.Rules.{rules}
use Rattle.graph_loops.proofs.reach_more.Goals as goal

pub loop-p-init : goal.loop-p-init
loop-p-init c = (spread_none _ _, search rules, search rules)

pub loop-p-preserved : goal.loop-p-preserved
loop-p-preserved c = (spread_more _ _ c.loop-p.invariant.0 c.reach_from-any.ensures _ refl, search rules, search rules)

pub returns : goal.returns
returns c = spread_end _ _ _ (omega arith) c.loop-p.invariant.0
