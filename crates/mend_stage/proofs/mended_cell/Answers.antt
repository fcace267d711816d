-- `mend_stage::mended_cell` meets its contract. Assumes nothing.
use mathlib.Core.Logic.{inl, inr}
use Rattle.mend_stage.proofs.Laws.{inversion_small, cell_joins}
use Rattle.mending.specs.Mend.{mended}
use Rattle.mend_stage.specs.Stages.{deed_for, deed_pin}
use Rattle.mend_stage.proofs.mended_cell.Goals as goal

pub and_of-requires : goal.and_of-requires
unfolding deed_for deed_pin
and_of-requires c = record { pin_bound = rw c.in-Joins.is at c.requires; first_bound = inversion_small _ _ c.inversion_of.ensures; second_bound = inversion_small _ _ c.inversion_of-in-Joins.ensures }

pub returns-in-Kept : goal.returns-in-Kept
unfolding deed_for mended
returns-in-Kept c = rw c.in-Kept.is

pub returns-in-Stands : goal.returns-in-Stands
unfolding deed_for mended
returns-in-Stands c = elim c.in-Stands.is [ inl e ↦ rw e c.plain.ensures | inr e ↦ rw e c.plain.ensures ]

pub returns-in-Joins : goal.returns-in-Joins
unfolding deed_for
returns-in-Joins c = rw c.in-Joins.is (cell_joins _ _ _ _ _ _ _ c.inversion_of.ensures c.inversion_of-in-Joins.ensures c.and_of.ensures)
