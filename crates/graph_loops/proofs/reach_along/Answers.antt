use mathlib.Core.Path.{refl}
use native.Mathlib.Omega.{arith}
use Rattle.graph_loops.proofs.Laws.Reaching.{spread_none, spread_loose}
use borrow.Author.Rules.{rules}
use Rattle.graph_loops.proofs.reach_along.Goals as goal
use Rattle.graph_loops.proofs.reach_along.Goals.{then-index-pins, else-index-pins}

pub loop-i-init : goal.loop-i-init
loop-i-init c = (spread_none _ _, search rules, search rules)

pub loop-i-preserved : goal.loop-i-preserved
loop-i-preserved c = elim c.if-index-pins.branch [
  | then-index-pins w ↦ (rw (w.seen-is, w.any-is) (spread_loose _ _ c.loop-i.invariant.0 w.reach_from-any.ensures _ refl), search rules, omega arith)
  | else-index-pins w ↦ (rw (w.seen-is, w.any-is) c.loop-i.invariant.0, search rules, omega arith)
]
