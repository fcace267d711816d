-- `stage_levels::reverse_levels` meets its contract: no pin has a reverse level at first. Assumes nothing.
use Rattle.stage_levels.proofs.Laws.Lifting.{lower_at, reversed}
use Rattle.stage_levels.proofs.reverse_levels.Goals as goal

pub lower-requires : goal.lower-requires
lower-requires c = let s = c.requires in record { it = s.it; at = lower_at s.at _ c.start.ensures }

pub returns : goal.returns
returns c = record { all = λ C A. reversed A _ c.start.ensures (c.lower.ensures.all C (lower_at A _ c.start.ensures)) }
