-- `placer_start::reservation::flip_flop` meets its contract: two 32-bit numbers have room in a sum of 64 bits. Assumes nothing.
use mathlib.Core.Path.{◌∙◌}
use Rattle.placer_start.proofs.Laws.Counts.{adds_flip_flop}
use Rattle.placer_start.proofs.reservation.flip_flop.Goals as goal

pub returns : goal.returns
returns c = adds_flip_flop _ _ _ _ _ c.pin_of.ensures c.wide.ensures (c.wide-2.ensures ∙ c.inversion_of.ensures)
