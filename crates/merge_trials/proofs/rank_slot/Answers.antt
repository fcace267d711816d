-- `merge_trials::rank_slot` meets its contract: the keys of an open slot. Assumes nothing.
use native.Mathlib.Omega.{arith}
use Rattle.merge_trials.proofs.Laws.Keys.{rank_barred, rank_room, key_at, slot_ranked}
use Rattle.merge_trials.proofs.rank_slot.Goals as goal

pub returns-then-work-base-ne0 : goal.returns-then-work-base-ne0
returns-then-work-base-ne0 c = record { all = λ x A. rank_barred A c.if-work-base-ne0.true }

pub measure-union-requires : goal.measure-union-requires
measure-union-requires c = let s = c.requires in record { it = s.it; at = s.at.extend }

pub slice_bounds-key_slot-end : goal.slice_bounds-key_slot-end
slice_bounds-key_slot-end c = let s = c.requires in omega (arith, rank_room s.at (c.measure-union.ensures.all s.it s.at.extend))

pub key_slot-requires : goal.key_slot-requires
key_slot-requires c = let s = c.requires in key_at s.at (c.measure-union.ensures.all s.it s.at.extend)

pub returns : goal.returns
returns c = record { all = λ x A. slot_ranked A (c.measure-union.ensures.all x A.extend) c.key_slot.ensures }
