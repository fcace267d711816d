use native.Mathlib.Omega.{arith}
use Rattle.stage_runs.proofs.Laws.Half.{half_is}
use Rattle.stage_ending.proofs.Laws.Words.{rising_none, rising_row, rising_more}
use Rattle.stage_ending.proofs.words.collect.Goals as goal

pub loop-level-init : goal.loop-level-init
loop-level-init c = let A = c.requires in rw (half_is A.low A.high c.level_one_size-w.ensures) (rising_none A)

pub overflow_mul-w : goal.overflow_mul-w
overflow_mul-w c = omega (arith, (rising_row c.requires c.loop-level.invariant (omega arith)).high)

pub level-n-requires : goal.level-n-requires
level-n-requires c = record { it = _; at = rising_row c.requires c.loop-level.invariant (omega arith) }

pub loop-level-preserved : goal.loop-level-preserved
loop-level-preserved c = rising_more c.requires c.loop-level.invariant (omega arith) (c.level-n.ensures.all _ (rising_row c.requires c.loop-level.invariant (omega arith)))
