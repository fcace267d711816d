-- `records::size_at` meets its contract. Assumes nothing.
use Rattle.records.proofs.Reading.{size_past, size_there, size_cut}
use Rattle.records.proofs.size_at.Goals as goal

pub returns-then-records-at : goal.returns-then-records-at
returns-then-records-at c = size_past _ _ c.if-records-at.true

pub returns-then-size-records : goal.returns-then-size-records
returns-then-size-records c = size_there _ _ _ c.size_for-size.ensures c.if-size-records.true

pub returns-else-size-records : goal.returns-else-size-records
returns-else-size-records c = size_cut _ _ _ c.size_for-size.ensures c.if-size-records.false
