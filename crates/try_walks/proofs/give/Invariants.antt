-- `try_walks::give` meets its contract: it marks the pins one after the other. Assumes nothing.
use Rattle.try_walks.specs.Shown.{Given}
use Rattle.try_walks.proofs.give.Given as goal

abbrev pub invariant-loop-pin : goal.invariant-loop-pin
invariant-loop-pin l = Given l.m l.initial.work l.work
