-- `positions::level_of` meets its contract. Assumes nothing.
use native.Mathlib.Omega.{arith}
use Rattle.rules.specs.Cells.{level_of}
use Rattle.positions.proofs.level_of.Goals as goal

pub returns-then-height-log : goal.returns-then-height-log
unfolding level_of
returns-then-height-log c = omega arith

pub returns : goal.returns
unfolding level_of
returns c = omega arith
