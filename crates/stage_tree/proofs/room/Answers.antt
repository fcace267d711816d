-- `stage_tree::room` meets its contract: the greater of the two counts decides. Assumes nothing.
use mathlib.Core.Path.{refl}
use Rattle.stage_tree.specs.Counts.{room_in}
use Rattle.stage_tree.proofs.room.Goals as goal

pub returns : goal.returns
unfolding room_in
returns c = rw (c.max.ensures, c.tail_get-ones.ensures, c.tail_get-pins.ensures) refl
