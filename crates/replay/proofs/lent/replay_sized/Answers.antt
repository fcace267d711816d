-- `replay::lent::replay_sized` meets its contract. Assumes nothing.
use mathlib.Core.Path.{sym, ◌∙◌}
use Rattle.replay.proofs.Laws.Sizes.{build_wrong, build_right}
use Rattle.replay.proofs.lent.replay_sized.Goals as goal

pub returns-then-areas_sized : goal.returns-then-areas_sized
returns-then-areas_sized c = c.lists_sized.ensures ∙ build_right _ _ _ _ _ _ _ _ _ _ (sym c.areas_sized.ensures ∙ c.if-areas_sized.true)

pub returns-else-areas_sized : goal.returns-else-areas_sized
returns-else-areas_sized c = c.if-areas_sized.false ∙ build_wrong _ _ _ _ _ _ _ _ _ _ (sym c.areas_sized.ensures ∙ c.if-areas_sized.false)
