use native.Mathlib.Omega.{arith}
use Rattle.graph_loops.proofs.Laws.Searching.{under_start, under_more, loop_told, still_long}
use Rattle.graph_loops.proofs.spread.Goals as goal

pub reach_along-requires : goal.reach_along-requires
reach_along-requires c = let u = under_start _ _ _ _ _ c.requires.seen_value c.requires.inside c.reach.ensures in record { inside = c.requires.inside; gates_in_bounds = omega (arith, c.requires.inside.few, u.size) }

pub loop-init : goal.loop-init
loop-init c = under_more _ _ _ _ _ _ (under_start _ _ _ _ _ c.requires.seen_value c.requires.inside c.reach.ensures) c.reach_along.ensures

pub reach_more-requires : goal.reach_more-requires
reach_more-requires c = record { inside = c.requires.inside; gates_in_bounds = omega (arith, c.requires.inside.few, c.loop.invariant.size) }

pub loop-smaller : goal.loop-smaller
loop-smaller c = c.reach_more.ensures.less c.loop-test.true

pub loop-preserved : goal.loop-preserved
loop-preserved c = under_more _ _ _ _ _ _ c.loop.invariant c.reach_more.ensures

pub shape_of-seen : goal.shape_of-seen
shape_of-seen c = still_long _ _ _ _ _ _ _ c.requires.seen_value c.loop.invariant c.reach_more.ensures

pub returns : goal.returns
returns c = loop_told _ _ _ _ _ _ c.requires.inside c.loop.invariant c.reach_more.ensures c.loop-test.false c.index.ensures
