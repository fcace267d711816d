-- `merge_layout::arrange` meets its contract: the order stands in the stage numbers while the groups are gathered. Assumes nothing.
use mathlib.Core.Path.{refl}
use Rattle.merge_layout.proofs.Laws.Whole.{order_ready, gather_at, arranged}
use Rattle.merge_layout.proofs.arrange.Goals as goal

pub final_order-k-requires : goal.final_order-k-requires
final_order-k-requires c = order_ready c.requires

pub gather-requires : goal.gather-requires
gather-requires c = gather_at c.requires c.final_order-k.ensures refl refl c.copy.ensures

pub returns : goal.returns
returns c = arranged c.requires c.final_order-k.ensures refl refl c.copy.ensures c.gather.ensures c.gather.auto.to c.copy-2.ensures
