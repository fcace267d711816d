-- `stage_ending::words::collect` meets its contract: row after row, each half as wide as the one below. Assumes nothing.
use Prim.Native.Nat.{◌+◌}
use Rattle.stage_ending.specs.Words.{Rising}
use Rattle.stage_ending.proofs.words.collect.Given as goal

abbrev pub invariant-loop-level : goal.invariant-loop-level
invariant-loop-level l = Rising l.m l.fn.height.0 (l._level + 1) l.w l.stage l.initial.work l.work l.n
