-- `mend_stage::fix` meets its contract. Assumes nothing.
use mathlib.Core.Logic.{inl, inr}
use Rattle.mend_stage.proofs.Laws.{fixes_copies, fixes_joins}
use Rattle.mending.specs.Mend.{fixing}
use Rattle.mend_stage.specs.Stages.{deed_for}
use Rattle.mend_stage.proofs.fix.Goals as goal

pub returns-in-Kept : goal.returns-in-Kept
unfolding deed_for fixing
returns-in-Kept c = elim c.in-Kept.is [ inl e ↦ rw e | inr e ↦ rw e.1 ]

pub returns-in-Copies : goal.returns-in-Copies
unfolding deed_for
returns-in-Copies c = rw c.in-Copies.is (fixes_copies _ _ _ _ _ c.first_lower.ensures c.fix_at.ensures)

pub returns-in-Joins : goal.returns-in-Joins
unfolding deed_for
returns-in-Joins c = rw c.in-Joins.is (fixes_joins _ _ _ _ _ _ _ _ _ _ _ c.first_lower-in-Joins.ensures c.pin_of.ensures c.fix_at-in-Joins.ensures c.second_lower.ensures c.pin_of-in-Joins.ensures c.fix_at-in-Joins-2.ensures)
