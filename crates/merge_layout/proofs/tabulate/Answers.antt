-- `merge_layout::tabulate` meets its contract. Assumes nothing.
use Rattle.merge_layout.proofs.Laws.Tables.{fill_at, tabled}
use Rattle.merge_layout.proofs.tabulate.Goals as goal

pub fill_lists-requires : goal.fill_lists-requires
fill_lists-requires c = fill_at c.requires c.clear_lists.ensures

pub returns : goal.returns
returns c = tabled c.requires c.clear_lists.ensures c.fill_lists.ensures
