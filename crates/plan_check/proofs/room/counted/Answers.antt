-- `plan_check::room::counted` meets its contract. Assumes nothing.
use mathlib.Core.Path.{refl}
use Rattle.plan_check.proofs.Laws.Answers.{arrays_at}
use Rattle.plan_check.proofs.room.counted.Goals as goal

pub count_in-requires : goal.count_in-requires
count_in-requires c = arrays_at _ _ c.requires _ c.pin_count.ensures _ _ _ refl refl refl
