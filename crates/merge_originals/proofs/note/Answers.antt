-- `merge_originals::note` meets its contract: the size, and the stores. Assumes nothing.
use native.Mathlib.Omega.{arith}
use Rattle.merge_originals.proofs.Laws.Measuring.{note_size, note_end, note_store, noted}
use Rattle.merge_originals.proofs.note.Goals as goal

pub size_union-size-requires : goal.size_union-size-requires
size_union-size-requires c = note_size c.requires

pub overflow_add-end : goal.overflow_add-end
overflow_add-end c = omega (arith, note_end c.requires c.size_union-size.ensures, c.requires.ground.few, c.requires.ground.room)

pub slice_bounds-store_built-end : goal.slice_bounds-store_built-end
slice_bounds-store_built-end c = note_end c.requires c.size_union-size.ensures

pub store_built-requires : goal.store_built-requires
store_built-requires c = note_store c.requires c.size_union-size.ensures

pub returns : goal.returns
returns c = noted c.requires c.size_union-size.ensures c.store_built.ensures
