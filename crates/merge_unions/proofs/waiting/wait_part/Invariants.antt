-- `merge_unions::waiting::wait_part` meets its contract: the first i names' pins wait. Assumes nothing.
use Rattle.merge_unions.proofs.Laws.Waiting.{Gathering}
use Rattle.merge_unions.proofs.waiting.wait_part.Given as goal

abbrev pub invariant-loop-name : goal.invariant-loop-name
invariant-loop-name l = Gathering l.m l.n l.name-index l.records l.names l.initial.work l.work l.k
