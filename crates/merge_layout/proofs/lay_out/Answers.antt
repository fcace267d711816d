-- `merge_layout::lay_out` meets its contract. Assumes nothing.
use Rattle.merge_layout.proofs.Laws.Whole.{write_at, laid}
use Rattle.merge_layout.proofs.lay_out.Goals as goal

pub write_lists-requires : goal.write_lists-requires
write_lists-requires c = write_at c.requires c.arrange-k.ensures

pub returns : goal.returns
returns c = laid c.requires c.arrange-k.ensures c.write_lists.new.own c.write_lists.ensures c.write_lists.auto.own
