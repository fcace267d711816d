-- `try_replay::plain::hand_out` ends: it hands out record after record. Assumes nothing.
use Rattle.std.proofs.Common.{◌-◌, length}
use Rattle.try_replay.proofs.plain.hand_out.Given as goal

abbrev pub decreases-loop-at : goal.decreases-loop-at
decreases-loop-at l = length l.records - l.at
