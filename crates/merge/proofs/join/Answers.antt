-- `merge::join` meets its contract: a refused partition, or the merged ones laid out. Assumes nothing.
use native.Mathlib.Omega.{arith}
use Rattle.std.proofs.lemmas.Result.{err_from_is_err_and}
use Rattle.merge.proofs.Laws.Joining.{originals_at, cap_small, slots_at, lay_at, join_refused, join_merged}
use Rattle.merge.proofs.join.Goals as goal

pub build_originals-requires : goal.build_originals-requires
build_originals-requires c = originals_at c.requires

pub begun-ranks-requires : goal.begun-ranks-requires
begun-ranks-requires c = omega (arith, c.requires.at.few)

pub overflow_add-most : goal.overflow_add-most
overflow_add-most c = omega (arith, cap_small c.requires c.build_originals.ensures c.in_ok-most.was)

pub merge_slots-trials-requires : goal.merge_slots-trials-requires
merge_slots-trials-requires c = slots_at c.requires c.build_originals.ensures c.in_ok-most.was c.begun-ranks.ensures

pub lay_out-left-requires : goal.lay_out-left-requires
lay_out-left-requires c = lay_at c.requires c.build_originals.ensures c.in_ok-most.was c.begun-ranks.ensures c.merge_slots-trials.ensures (λ i. omega (arith, c.slice_known-17-1.given i))

pub returns-in_err-most : goal.returns-in_err-most
returns-in_err-most c = let p = err_from_is_err_and c.from_residual.result c.from_residual.ensures.1 in rw (p.1, p.2) (join_refused c.requires c.build_originals.ensures c.in_err-most.was)

pub returns : goal.returns
returns c = join_merged c.requires c.build_originals.ensures c.in_ok-most.was c.begun-ranks.ensures c.merge_slots-trials.ensures c.lay_out-left.ensures
