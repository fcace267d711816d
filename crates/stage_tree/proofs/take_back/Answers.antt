-- `stage_tree::take_back` meets its contract: what `purge_bit` reports is taken from the sum. Assumes nothing.
use native.Mathlib.Omega.{arith}
use Rattle.stage_tree.proofs.Bits.Totals.{purged_less, purged_total}
use Rattle.stage_tree.proofs.take_back.Goals as goal

pub overflow_sub-total : goal.overflow_sub-total
overflow_sub-total c = let s = c.requires in omega (arith, c.tail_get-total.ensures, purged_less s.at (c.purge_bit-n.ensures.all s.it s.at.back))

pub returns : goal.returns
returns c = record { all = λ C A. purged_total A (c.purge_bit-n.ensures.all C A.back) _ c.tail_get-total.ensures c.tail_set.ensures }
