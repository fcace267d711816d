-- `plan_check::room::count_in` meets its contract. Assumes nothing.
use mathlib.Core.Path.{refl}
use Rattle.plan_check.proofs.Laws.Answers.{count_at}
use Rattle.plan_check.proofs.room.count_in.Goals as goal

pub count_records-requires : goal.count_records-requires
count_records-requires c = count_at _ _ _ _ _ c.requires _ _ refl refl

pub returns : goal.returns
returns c = record { counts = c.count_records.ensures.counts; few = c.count_records.ensures.few }
