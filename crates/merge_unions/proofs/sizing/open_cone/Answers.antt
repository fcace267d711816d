-- `merge_unions::sizing::open_cone` meets its contract: a cone of no groups is extended. Assumes nothing.
use Rattle.merge_unions.proofs.Laws.Cones.{cone_given, cone_none, coned}
use Rattle.merge_unions.proofs.sizing.open_cone.Goals as goal

pub mark_given-requires : goal.mark_given-requires
mark_given-requires c = cone_given c.requires

pub extend-requires : goal.extend-requires
extend-requires c = record { it = _; at = cone_none c.requires c.mark_given.ensures }

pub returns : goal.returns
returns c = let N = cone_none c.requires c.mark_given.ensures in coned c.requires c.mark_given.ensures (c.extend.ensures.all _ N)
