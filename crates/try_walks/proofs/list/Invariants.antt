-- `try_walks::list` meets its contract: it lists the pins one after the other. Assumes nothing.
use Rattle.try_walks.specs.Shown.{Waiting}
use Rattle.try_walks.proofs.list.Given as goal

abbrev pub invariant-loop-pin : goal.invariant-loop-pin
invariant-loop-pin l = Waiting l.m l.initial.work l.work l.n
