-- `mend::settle` meets its contract. Assumes nothing.
use Rattle.mend.proofs.Laws.{settle_short, settle_listed, write_at}
use Rattle.mend.proofs.settle.Goals as goal

pub returns-then-list-n : goal.returns-then-list-n
returns-then-list-n c = rw c.from.ensures (settle_short _ _ _ _ c.requires _ c.count_changes-n.ensures c.if-list-n.true)

pub write_changes-requires : goal.write_changes-requires
write_changes-requires c = write_at _ _ _ _ c.requires _ c.count_changes-n.ensures c.if-list-n.false

pub returns : goal.returns
returns c = settle_listed _ _ _ _ c.requires _ c.count_changes-n.ensures c.if-list-n.false _ c.write_changes.ensures _ c.copy.ensures
