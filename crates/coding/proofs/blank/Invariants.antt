-- `coding::blank` meets its contract: of the first i cells n are empty. Assumes nothing.
use Rattle.coding.proofs.Laws.{Counted}
use Rattle.coding.proofs.blank.Given as goal

abbrev pub invariant-loop-i : goal.invariant-loop-i
invariant-loop-i l = Counted l.cells l.p l.i l.n
