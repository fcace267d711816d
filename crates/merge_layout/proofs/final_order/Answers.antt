-- `merge_layout::final_order` meets its contract: every full slot is open, and has its key. Assumes nothing.
use Rattle.merge_layout.proofs.Laws.Orders.{sort_at, ordered}
use Rattle.merge_layout.proofs.final_order.Goals as goal

pub sort-requires : goal.sort-requires
sort-requires c = sort_at c.requires c.open_all.ensures c.order_keys.ensures

pub returns : goal.returns
returns c = ordered c.requires c.open_all.ensures c.order_keys.ensures c.sort.ensures
