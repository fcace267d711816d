-- `merge_checks::may_merge` meets its contract. Assumes nothing.
use mathlib.Core.Path.{◌∙◌}
use Rattle.merge_checks.proofs.Laws.Refusing.{no_partition, many_partitions, many_indices, much_extra, named_decide}
use Rattle.merge_checks.proofs.may_merge.Goals as goal

pub returns-then-n-eq0 : goal.returns-then-n-eq0
returns-then-n-eq0 c = no_partition _ _ _ _ c.if-n-eq0.true

pub returns-then-n-gt1024 : goal.returns-then-n-gt1024
returns-then-n-gt1024 c = many_partitions _ _ _ _ c.if-n-eq0.false c.if-n-gt1024.true

pub returns-then-indices-gt4294967295 : goal.returns-then-indices-gt4294967295
returns-then-indices-gt4294967295 c = many_indices _ _ _ _ c.if-n-eq0.false c.if-n-gt1024.false c.if-indices-gt4294967295.true

pub returns-then-extra-gt255 : goal.returns-then-extra-gt255
returns-then-extra-gt255 c = much_extra _ _ _ _ c.if-n-eq0.false c.if-n-gt1024.false c.if-indices-gt4294967295.false c.if-extra-gt255.true

pub returns : goal.returns
returns c = c.given_right.ensures ∙ named_decide _ _ _ _ c.if-n-eq0.false c.if-n-gt1024.false c.if-indices-gt4294967295.false c.if-extra-gt255.false _ c.groups_in.ensures
