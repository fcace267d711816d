-- `stage_tree::place_bit` and `stage_tree::split_gate` meet their contracts. Twice the level falls, and one more for placing. Assumes nothing.
use Prim.Native.Nat.{◌+◌, ◌*◌}
use Rattle.stage_tree.proofs.+place_bit_split_gate.Given as goal

abbrev pub decreases-place_bit : goal.decreases-place_bit
decreases-place_bit l = 2 * l.h + 1

abbrev pub decreases-split_gate : goal.decreases-split_gate
decreases-split_gate l = 2 * l.h
