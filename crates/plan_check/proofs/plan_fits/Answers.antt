-- `plan_check::plan_fits` meets its contract. Assumes nothing.
use Rattle.plan_check.proofs.Laws.Answers.{fits_plan, fits_rooms, fits_counts}
use Rattle.plan_check.proofs.plan_fits.Goals as goal
use Rattle.plan_check.proofs.plan_fits.Goals.{then-not-plan_sized-via-then-not-plan_sized, then-not-plan_sized-via-else-not-plan_sized+then-rooms-stages}

pub returns-then-not-plan_sized : goal.returns-then-not-plan_sized
returns-then-not-plan_sized c = elim c.then-not-plan_sized.branch [
  | then-not-plan_sized-via-then-not-plan_sized w ↦ fits_plan _ _ _ _ _ c.plan_sized.ensures w.if-not-plan_sized.true
  | then-not-plan_sized-via-else-not-plan_sized+then-rooms-stages w ↦ fits_rooms _ _ _ _ _ c.plan_sized.ensures w.if-not-plan_sized.false _ w.rooms.ensures w.if-rooms-stages.true
]

pub returns : goal.returns
returns c = fits_counts _ _ _ _ _ c.plan_sized.ensures c.if-not-plan_sized.false _ c.rooms.ensures c.if-rooms-stages.false
