-- `try_trees::show` is safe: the stage's part is in the room. Assumes nothing.
use mathlib.Core.Path.{sym, ◌∙◌, refl}
use native.Mathlib.Omega.{arith}
use lib.ListN.{length-take}
use Rattle.try_trees.proofs.Example.{stage_room}
use Rattle.try_trees.proofs.show.Goals as goal

pub slice_bounds-room-end : goal.slice_bounds-room-end
slice_bounds-room-end g c = omega (arith, (stage_room _ _ (sym c.is_height.ensures ∙ c.if-is_height.true) c.stage_size-size.ensures).1, c.largest-room.ensures)

pub try_example-requires : goal.try_example-requires
try_example-requires g c =
    let h = sym c.is_height.ensures ∙ c.if-is_height.true in
    let s = stage_room _ _ h c.stage_size-size.ensures in
    record { height = h; stage = rw length-take (omega (arith, s.0, s.1, c.largest-room.ensures)); work = refl }
