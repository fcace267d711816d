-- `merge_checks::merge_sized` meets its contract: what is left of the work area decides last. Assumes nothing.
use Rattle.rules.proofs.Bools.{no, yes}
use Rattle.merge_checks.proofs.Laws.Refusing.{lists_differ, sum_differs, others_refuse, work_decides}
use Rattle.merge_checks.proofs.merge_sized.Goals as goal

pub returns-then-lengths-stages : goal.returns-then-lengths-stages
returns-then-lengths-stages c = lists_differ _ _ _ _ _ _ _ _ _ _ c.if-lengths-stages.true

pub returns-then-not-lengths_right : goal.returns-then-not-lengths_right
returns-then-not-lengths_right c = sum_differs _ _ _ _ _ _ _ _ _ _ (no c.lengths_right.ensures c.if-not-lengths_right.true-raw)

pub returns-then-not-lent_sized : goal.returns-then-not-lent_sized
returns-then-not-lent_sized c = others_refuse _ _ _ _ _ _ _ _ _ _ c.if-lengths-stages.false (yes c.lengths_right.ensures c.if-not-lengths_right.false-raw) (no c.lent_sized.ensures c.if-not-lent_sized.true-raw)

pub returns : goal.returns
returns c = work_decides _ _ _ _ _ _ _ _ _ _ c.if-lengths-stages.false (yes c.lengths_right.ensures c.if-not-lengths_right.false-raw) (yes c.lent_sized.ensures c.if-not-lent_sized.false-raw) _ _ _ c.work_left-build.ensures c.take_eights-partitions.ensures c.take_eights.ensures _ c.is_some.ensures
