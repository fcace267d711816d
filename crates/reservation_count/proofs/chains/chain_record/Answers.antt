-- `reservation_count::chains::chain_record` meets its contract. Assumes nothing.
use native.Mathlib.Omega.{arith}
use Rattle.reservation_count.proofs.Laws.Chains.{link_inside, linked_memory, link_pin, linked_code}
use Rattle.reservation_count.proofs.chains.chain_record.Goals as goal

pub bounds-heads-i : goal.bounds-heads-i
bounds-heads-i c = link_pin _ _ _ _ c.requires c.adds.ensures c.in-Code.is _ c.index-i.ensures

pub offset_bounds-links-at : goal.offset_bounds-links-at
offset_bounds-links-at c = omega (arith, link_inside _ _ _ _ c.requires c.adds.ensures, c.requires.short)

pub bounds-links-at : goal.bounds-links-at
bounds-links-at c = omega (arith, link_inside _ _ _ _ c.requires c.adds.ensures, c.requires.room)

pub overflow_add-heads : goal.overflow_add-heads
overflow_add-heads c = omega (arith, link_inside _ _ _ _ c.requires c.adds.ensures, c.requires.short)

pub overflow_cast-heads : goal.overflow_cast-heads
overflow_cast-heads c = omega (arith, link_inside _ _ _ _ c.requires c.adds.ensures, c.requires.short)

pub bounds-heads-i-in-Code : goal.bounds-heads-i-in-Code
bounds-heads-i-in-Code c = link_pin _ _ _ _ c.requires c.adds.ensures c.in-Code.is _ c.index-i.ensures

pub returns-in-Memory : goal.returns-in-Memory
returns-in-Memory c = linked_memory _ _ _ _ c.requires c.adds.ensures c.in-Memory.is

pub returns-in-Code : goal.returns-in-Code
returns-in-Code c = linked_code _ _ _ _ c.requires c.adds.ensures c.in-Code.is _ c.index-i.ensures
