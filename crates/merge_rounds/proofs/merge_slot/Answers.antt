-- `merge_rounds::merge_slot` meets its contract: an empty slot is passed over, a full one has its rounds. Assumes nothing.
use Rattle.merge_rounds.proofs.Laws.Slots.{slot_empty, slot_fuel, into_at, slot_merged}
use Rattle.merge_rounds.proofs.merge_slot.Goals as goal

pub returns-then-lengths-i-eq0 : goal.returns-then-lengths-i-eq0
returns-then-lengths-i-eq0 c = slot_empty c.requires c.if-lengths-i-eq0.true

pub merge_into-t-requires : goal.merge_into-t-requires
merge_into-t-requires c = into_at c.requires c.if-lengths-i-eq0.false c.open_all.ensures

pub overflow_sub-result : goal.overflow_sub-result
overflow_sub-result c = slot_fuel c.requires

pub returns : goal.returns
returns c = slot_merged c.requires c.if-lengths-i-eq0.false c.open_all.ensures c.merge_into-t.ensures
