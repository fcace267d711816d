-- `stage_tree::purge_bit` meets its contract. The level falls. Assumes nothing.
use Rattle.stage_tree.proofs.+purge_bit.Given as goal

abbrev pub decreases-purge_bit : goal.decreases-purge_bit
decreases-purge_bit l = l.h
