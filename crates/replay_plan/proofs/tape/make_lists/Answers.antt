-- `replay_plan::tape::make_lists` meets its contract. Assumes nothing.
use Rattle.replay_plan.proofs.Laws.Tape.{places_in, flips_in, lists_out}
use Rattle.replay_plan.proofs.tape.make_lists.Goals as goal

pub put_places-places-requires : goal.put_places-places-requires
put_places-places-requires c = places_in _ _ _ _ _ c.requires _ c.pin_count-pins.ensures

pub put_flips-flips-requires : goal.put_flips-flips-requires
put_flips-flips-requires c = flips_in _ _ _ _ _ c.requires _ c.pin_count-pins.ensures c.put_leaves-leaves.new.leaves c.put_leaves-leaves.ensures.len

pub returns : goal.returns
returns c = lists_out _ _ _ _ _ c.requires _ c.pin_count-pins.ensures _ _ _ c.put_places-places.ensures _ c.mark_driven.ensures c.put_leaves-leaves.new.leaves _ c.put_leaves-leaves.ensures _ _ c.put_flips-flips.ensures
