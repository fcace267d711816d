-- `stage_walk::traversal::traverse` meets its contract: it goes on from no pin. Assumes nothing.
use Rattle.stage_walk.proofs.traversal.Loops.{from_none, traversed}
use Rattle.stage_walk.proofs.traversal.traverse.Goals as goal

pub traverse_on-requires : goal.traverse_on-requires
traverse_on-requires c = let s = c.requires in record { it = s.it; at = from_none s.at }

pub returns : goal.returns
returns c = record { all = λ C A. traversed (c.traverse_on.ensures.all C (from_none A)) }
