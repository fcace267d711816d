-- `merge_trials::rank_open` meets its contract: the cone of slot i is opened, every later slot ranked with it, and it is closed. Assumes nothing.
use native.Mathlib.Omega.{arith}
use Rattle.merge_trials.proofs.Laws.Keys.{open_order, open_at, later_at, later_close, all_ranked}
use Rattle.merge_trials.proofs.rank_open.Goals as goal

pub offset_bounds-indices-a : goal.offset_bounds-indices-a
offset_bounds-indices-a c = let o = open_order c.requires c.start_of-a.ensures c.start_of-b.ensures in omega (arith, c.requires.at.short)

pub slice_bounds-open_cone-count : goal.slice_bounds-open_cone-count
slice_bounds-open_cone-count c = let o = open_order c.requires c.start_of-a.ensures c.start_of-b.ensures in omega (arith, c.requires.at.short)

pub slice_bounds-open_cone-start : goal.slice_bounds-open_cone-start
slice_bounds-open_cone-start c = let o = open_order c.requires c.start_of-a.ensures c.start_of-b.ensures in omega (arith, c.requires.at.short)

pub slice_bounds-open_cone-end : goal.slice_bounds-open_cone-end
slice_bounds-open_cone-end c = let o = open_order c.requires c.start_of-a.ensures c.start_of-b.ensures in omega (arith, c.requires.at.short)

pub open_cone-cone-requires : goal.open_cone-cone-requires
open_cone-cone-requires c = open_at c.requires c.start_of-a.ensures c.start_of-b.ensures

pub rank_later-requires : goal.rank_later-requires
rank_later-requires c = record { it = _; at = later_at c.requires c.start_of-a.ensures c.start_of-b.ensures c.open_cone-cone.ensures }

pub close_cone-requires : goal.close_cone-requires
close_cone-requires c = let A = c.requires in let O = c.open_cone-cone.ensures in later_close A c.start_of-a.ensures c.start_of-b.ensures O (c.rank_later.ensures.all _ (later_at A c.start_of-a.ensures c.start_of-b.ensures O))

pub returns : goal.returns
returns c = let A = c.requires in let O = c.open_cone-cone.ensures in all_ranked A c.start_of-a.ensures c.start_of-b.ensures O (c.rank_later.ensures.all _ (later_at A c.start_of-a.ensures c.start_of-b.ensures O)) c.close_cone.ensures
