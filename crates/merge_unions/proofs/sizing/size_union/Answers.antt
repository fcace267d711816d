-- `merge_unions::sizing::size_union` meets its contract: the cone of the first list, measured with the second. Assumes nothing.
use Rattle.merge_unions.proofs.Laws.Cones.{size_cone, size_extend, size_close, measured}
use Rattle.merge_unions.proofs.sizing.size_union.Goals as goal

pub open_cone-cone-requires : goal.open_cone-cone-requires
open_cone-cone-requires c = size_cone c.requires

pub measure-k-requires : goal.measure-k-requires
measure-k-requires c = record { it = _; at = size_extend c.requires c.open_cone-cone.ensures }

pub close_cone-requires : goal.close_cone-requires
close_cone-requires c = let A = c.requires in let O = c.open_cone-cone.ensures in size_close A O (c.measure-k.ensures.all _ (size_extend A O))

pub returns : goal.returns
returns c = let A = c.requires in let O = c.open_cone-cone.ensures in measured A O (c.measure-k.ensures.all _ (size_extend A O)) c.close_cone.ensures
