-- `merge_checks::merge_refusal` meets its contract: sizes need no answer for a bad height, and check 10 comes last. Assumes nothing.
use mathlib.Core.Path.{refl, sym, ◌∙◌}
use Rattle.merge_checks.proofs.Laws.Refusing.{refused_early, readable, refused_late, not_refused}
use Rattle.merge_checks.proofs.merge_refusal.Goals as goal

pub returns-in-Err : goal.returns-in-Err
returns-in-Err c = refused_early _ _ _ _ _ _ _ _ _ _ _ _ _ c.merge_sized-sized.ensures _ c.in-Err.ensures _ refl

pub may_merge-requires : goal.may_merge-requires
may_merge-requires c = let a = c.args in readable a.height a.gates.now a.given.now a.records.now a.indices.now a.lengths.now a.stages.now a.extra a.plan.now a.words.now a.counts.now a.work.now _ c.merge_sized-sized.ensures _ c.in-Ok.ensures refl

pub returns-then-may_merge : goal.returns-then-may_merge
returns-then-may_merge c = not_refused _ _ _ _ _ _ _ _ _ _ _ _ _ c.merge_sized-sized.ensures _ c.in-Ok.ensures refl (sym c.may_merge.ensures ∙ c.if-may_merge.true)

pub returns-else-may_merge : goal.returns-else-may_merge
returns-else-may_merge c = refused_late _ _ _ _ _ _ _ _ _ _ _ _ _ c.merge_sized-sized.ensures _ c.in-Ok.ensures refl (sym c.may_merge.ensures ∙ c.if-may_merge.false)
