-- `cells::Height::rooms` meets its contract. Assumes nothing.
use Rattle.cells.proofs.Heights.{rooms_none, rooms_there}
use Rattle.cells.proofs.Height.rooms.Goals as goal

pub returns-then-each-eq0 : goal.returns-then-each-eq0
returns-then-each-eq0 c = rooms_none _ _ _ c.stage_size-each.ensures c.if-each-eq0.true

pub returns : goal.returns
returns c = rooms_there _ _ _ c.stage_size-each.ensures c.if-each-eq0.false
