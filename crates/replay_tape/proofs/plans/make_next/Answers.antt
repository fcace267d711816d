-- `replay_tape::plans::make_next` meets its contract. Assumes nothing.
use mathlib.Core.Path.{refl, ◌∙◌}
use Rattle.fold.proofs.Laws.Stages.{forgotten}
use Rattle.replay_tape.proofs.Laws.Plans.{next_made}
use Rattle.replay_tape.proofs.plans.make_next.Goals as goal

pub remember-requires : goal.remember-requires
remember-requires c = record { stage = c.requires.stage.up.stage; same = c.make_stage-count.ensures.wlen ∙ c.requires.stage.up.same }

pub returns : goal.returns
returns c = next_made _ _ _ _ _ _ _ _ _ _ c.requires.stage c.requires.named c.make_stage-count.ensures _ _ (forgotten _ _ _ _ c.requires.only c.forget.ensures) c.remember.ensures _ refl
