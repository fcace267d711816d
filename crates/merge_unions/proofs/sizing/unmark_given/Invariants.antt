-- `merge_unions::sizing::unmark_given` meets its contract: the given pins from i on are still marked. Assumes nothing.
use Rattle.columns.specs.Fields.{DONE}
use Rattle.merge_unions.proofs.Laws.Sizing.{Clearing}
use Rattle.merge_unions.proofs.sizing.unmark_given.Given as goal

abbrev pub invariant-loop-p : goal.invariant-loop-p
invariant-loop-p l = Clearing DONE l.m 0 l.p-index l.given l.initial.work l.work
