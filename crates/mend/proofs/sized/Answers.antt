-- `mend::sized` meets its contract. Assumes nothing.
use Rattle.mend.proofs.Laws.{fits_not, fits_work, fits_rooms}
use Rattle.mend.proofs.sized.Goals as goal
use Rattle.mend.proofs.sized.Goals.{then-not-plan_fits-via-then-not-plan_fits, then-not-plan_fits-via-else-not-plan_fits+then-work-plan}

pub returns-then-not-plan_fits : goal.returns-then-not-plan_fits
returns-then-not-plan_fits c = elim c.then-not-plan_fits.branch [
  | then-not-plan_fits-via-then-not-plan_fits w ↦ fits_not _ _ _ _ _ _ c.plan_fits.ensures w.if-not-plan_fits.true
  | then-not-plan_fits-via-else-not-plan_fits+then-work-plan w ↦ fits_work _ _ _ _ _ _ c.plan_fits.ensures w.if-not-plan_fits.false w.if-work-plan.true
]

pub returns : goal.returns
returns c = fits_rooms _ _ _ _ _ _ c.plan_fits.ensures c.if-not-plan_fits.false c.if-work-plan.false _ c.rooms.ensures
