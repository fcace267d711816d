-- `placer_start::reservation::output` meets its contract. Assumes nothing.
use mathlib.Core.Path.{◌∙◌}
use Rattle.placer_start.proofs.Laws.Counts.{adds_output}
use Rattle.placer_start.proofs.reservation.output.Goals as goal

pub returns : goal.returns
returns c = adds_output _ _ _ c.pin_of.ensures (c.wide.ensures ∙ c.inversion_of.ensures)
