-- `depth::walk` meets its contract: each walk leaves what the next asks, and the greatest level is D. Assumes nothing.
use Rattle.depth.proofs.Laws.Walks.{walked, walk_traverse, walk_levels, walk_deepest}
use Rattle.depth.proofs.walk.Goals as goal

pub traverse-k-requires : goal.traverse-k-requires
traverse-k-requires c = let A = c.requires in record { it = walked A c.mark_given.ensures c.wait_all-n.ensures; at = walk_traverse A c.mark_given.ensures c.wait_all-n.ensures }

pub levels-requires : goal.levels-requires
levels-requires c = let A = c.requires in let G = c.mark_given.ensures in let W = c.wait_all-n.ensures in record { it = walked A G W; at = walk_levels A G W (c.traverse-k.ensures.all _ (walk_traverse A G W)) }

pub returns : goal.returns
returns c = let A = c.requires in let G = c.mark_given.ensures in let W = c.wait_all-n.ensures in let T = c.traverse-k.ensures.all _ (walk_traverse A G W) in walk_deepest A G W T (c.levels.ensures.all _ (walk_levels A G W T))
