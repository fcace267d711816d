-- `merge::place` meets its contract: the areas are emptied, the records located, the partitions merged, the areas emptied again. Assumes nothing.
use native.Mathlib.Omega.{arith}
use Rattle.merge.proofs.Laws.Placing.{indices_few, pins_few, locate_at, join_at, placed}
use Rattle.merge.proofs.place.Goals as goal

pub overflow_mul-table : goal.overflow_mul-table
overflow_mul-table c = omega (arith, pins_few c.requires c.pin_count-m.ensures)

pub overflow_add-table-2 : goal.overflow_add-table-2
overflow_add-table-2 c = omega (arith, indices_few c.requires, pins_few c.requires c.pin_count-m.ensures, c.requires.passed.short)

pub overflow_add-base : goal.overflow_add-base
overflow_add-base c = omega (arith, indices_few c.requires, pins_few c.requires c.pin_count-m.ensures, c.requires.passed.short)

pub locate-requires : goal.locate-requires
locate-requires c = locate_at c.requires c.pin_count-m.ensures c.empty_all.ensures

pub join-merged-requires : goal.join-merged-requires
join-merged-requires c = join_at c.requires c.pin_count-m.ensures c.empty_all.ensures c.locate.ensures

pub shape_of-plan : goal.shape_of-plan
shape_of-plan c = omega (arith, c.empty_all-2.auto.plan, c.join-merged.auto.plan, c.empty_all.auto.plan)

pub shape_of-words : goal.shape_of-words
shape_of-words c = omega (arith, c.empty_all-2.auto.words, c.join-merged.auto.words, c.empty_all.auto.words)

pub shape_of-counts : goal.shape_of-counts
shape_of-counts c = omega (arith, c.empty_all-2.auto.counts, c.join-merged.auto.counts, c.empty_all.auto.counts)

pub shape_of-work : goal.shape_of-work
shape_of-work c = omega (arith, c.empty_all-2.auto.work, c.join-merged.auto.work, c.locate.auto.work, c.empty_all.auto.work)

pub returns : goal.returns
returns c = placed c.requires c.pin_count-m.ensures c.empty_all.ensures c.locate.ensures c.join-merged.ensures c.join-merged.auto.plan c.join-merged.auto.words c.join-merged.auto.counts c.join-merged.auto.work c.empty_all-2.ensures
