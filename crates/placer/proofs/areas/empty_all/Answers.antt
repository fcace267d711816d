-- `placer::areas::empty_all` meets its contract: each area is filled once. Assumes nothing.
use Rattle.rules.specs.Cells.{empty}
use Rattle.placer.proofs.areas.empty_all.Goals as goal

pub returns : goal.returns
unfolding empty
returns c = record { plan = (c.fill.ensures.after (λ y e. e)); words = (c.fill-2.ensures.after (λ y e. e)); counts = (c.fill-3.ensures.after (λ y e. e)); work = (c.fill-4.ensures.after (λ y e. e)) }
