-- `merge_unions::sizing::clear_along` meets its contract: the listed pins from i on are still to be cleared. Assumes nothing.
use Rattle.columns.specs.Lists.{list}
use Rattle.merge_unions.proofs.Laws.Sizing.{Clearing}
use Rattle.merge_unions.proofs.sizing.clear_along.Given as goal

abbrev pub invariant-loop-i : goal.invariant-loop-i
invariant-loop-i l = Clearing l.g l.m l.a l.i (list l.f l.m l.n l.initial.work) l.initial.work l.work
