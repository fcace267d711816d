-- `merge_layout::write_lists` meets its contract. Assumes nothing.
use native.Mathlib.Omega.{arith}
use Rattle.merge_layout.proofs.Laws.Lists.{total_at, written}
use Rattle.merge_layout.proofs.write_lists.Goals as goal

pub total-stages_sum-requires : goal.total-stages_sum-requires
total-stages_sum-requires c = total_at c.requires c.tabulate.ensures 1 (omega arith)

pub total-words_sum-requires : goal.total-words_sum-requires
total-words_sum-requires c = total_at c.requires c.tabulate.ensures 2 (omega arith)

pub total-cells_sum-requires : goal.total-cells_sum-requires
total-cells_sum-requires c = total_at c.requires c.tabulate.ensures 3 (omega arith)

pub returns : goal.returns
returns c = written c.requires c.tabulate.ensures c.copy.ensures c.copy-2.ensures c.total-stages_sum.ensures c.total-words_sum.ensures c.total-cells_sum.ensures
