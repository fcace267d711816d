-- `merge_trials::build_pair` meets its contract: the parts of the indices are the groups of two slots. Assumes nothing.
use native.Mathlib.Omega.{arith}
use Rattle.merge_trials.proofs.Laws.Standing.{pair_order, union_at, pair_built}
use Rattle.merge_trials.proofs.build_pair.Goals as goal

pub offset_bounds-indices-a : goal.offset_bounds-indices-a
offset_bounds-indices-a c = let o = pair_order c.requires.at c.requires.order c.requires.second c.start_of-a.ensures c.start_of-b.ensures c.start_of-c.ensures c.start_of-d.ensures in omega (arith, c.requires.at.short)

pub slice_bounds-build_union-count : goal.slice_bounds-build_union-count
slice_bounds-build_union-count c = let o = pair_order c.requires.at c.requires.order c.requires.second c.start_of-a.ensures c.start_of-b.ensures c.start_of-c.ensures c.start_of-d.ensures in omega (arith, c.requires.at.short)

pub slice_bounds-build_union-start : goal.slice_bounds-build_union-start
slice_bounds-build_union-start c = let o = pair_order c.requires.at c.requires.order c.requires.second c.start_of-a.ensures c.start_of-b.ensures c.start_of-c.ensures c.start_of-d.ensures in omega (arith, c.requires.at.short)

pub slice_bounds-build_union-end : goal.slice_bounds-build_union-end
slice_bounds-build_union-end c = let o = pair_order c.requires.at c.requires.order c.requires.second c.start_of-a.ensures c.start_of-b.ensures c.start_of-c.ensures c.start_of-d.ensures in omega (arith, c.requires.at.short)

pub offset_bounds-indices-c : goal.offset_bounds-indices-c
offset_bounds-indices-c c = let o = pair_order c.requires.at c.requires.order c.requires.second c.start_of-a.ensures c.start_of-b.ensures c.start_of-c.ensures c.start_of-d.ensures in omega (arith, c.requires.at.short)

pub slice_bounds-build_union-count-2 : goal.slice_bounds-build_union-count-2
slice_bounds-build_union-count-2 c = let o = pair_order c.requires.at c.requires.order c.requires.second c.start_of-a.ensures c.start_of-b.ensures c.start_of-c.ensures c.start_of-d.ensures in omega (arith, c.requires.at.short)

pub slice_bounds-build_union-start-2 : goal.slice_bounds-build_union-start-2
slice_bounds-build_union-start-2 c = let o = pair_order c.requires.at c.requires.order c.requires.second c.start_of-a.ensures c.start_of-b.ensures c.start_of-c.ensures c.start_of-d.ensures in omega (arith, c.requires.at.short)

pub slice_bounds-build_union-end-2 : goal.slice_bounds-build_union-end-2
slice_bounds-build_union-end-2 c = let o = pair_order c.requires.at c.requires.order c.requires.second c.start_of-a.ensures c.start_of-b.ensures c.start_of-c.ensures c.start_of-d.ensures in omega (arith, c.requires.at.short)

pub build_union-requires : goal.build_union-requires
build_union-requires c = record { union = union_at c.requires.at c.requires.order c.requires.second c.start_of-a.ensures c.start_of-b.ensures c.start_of-c.ensures c.start_of-d.ensures; blank = c.requires.blank }

pub returns : goal.returns
returns c = pair_built c.requires.at c.requires.order c.requires.second c.start_of-a.ensures c.start_of-b.ensures c.start_of-c.ensures c.start_of-d.ensures c.build_union.ensures
