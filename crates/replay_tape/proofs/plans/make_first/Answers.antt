-- `replay_tape::plans::make_first` meets its contract. Assumes nothing.
use mathlib.Core.Path.{◌∙◌}
use Rattle.replay_tape.proofs.Laws.Plans.{one_in, first_loads, next_made}
use Rattle.replay_tape.proofs.plans.make_first.Goals as goal

pub make_stage-count-requires : goal.make_stage-count-requires
make_stage-count-requires c = one_in _ _ _ _ _ _ c.requires _ c.first_slots.ensures

pub remember-requires : goal.remember-requires
remember-requires c = record { stage = c.requires.up.stage; same = c.make_stage-count.ensures.wlen ∙ c.requires.up.same }

pub returns : goal.returns
returns c = let p = c.requires in let f = c.first_slots.ensures in next_made _ _ _ _ _ _ _ _ _ _ (one_in _ _ _ _ _ _ p _ f) p.named c.make_stage-count.ensures _ _ (c.fill.ensures.after (λ y e. e)) c.remember.ensures _ (first_loads _ _ _ _ _ _ p _ f)
