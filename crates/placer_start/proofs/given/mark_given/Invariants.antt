-- `placer_start::given::mark_given` meets its contract: it marks the pins one after the other. Assumes nothing.
use Rattle.placer_start.proofs.Laws.Given.{Marking}
use Rattle.placer_start.proofs.given.mark_given.Given as goal

abbrev pub invariant-loop-p : goal.invariant-loop-p
invariant-loop-p l = Marking l.m l.p-index l.given l.initial.work l.work
