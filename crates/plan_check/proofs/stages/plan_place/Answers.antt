-- `plan_check::stages::plan_place` meets its contract. Assumes nothing.
use mathlib.Core.List.{[]}
use mathlib.Core.Path.{refl}
use Rattle.plan_check.proofs.Laws.Answers.{zeros_at, gives, plan_says}
use Rattle.plan_check.proofs.stages.plan_place.Goals as goal

pub marked_place-requires : goal.marked_place-requires
marked_place-requires c = zeros_at _ _ _ _ _ [] _ _ _ c.requires _ _ refl refl

pub returns : goal.returns
returns c = plan_says _ _ _ _ _ _ _ _ _ c.requires _ (gives _ _ _ _ _ [] _ _ _ c.requires _ _ refl c.mark_cells.ensures) _ c.marked_place.ensures
