-- `bits::put` meets its contract: the bits that are left give the number's. Assumes nothing.
use Rattle.bits.proofs.Laws.Putting.{Going}
use Rattle.bits.proofs.put.Given as goal

abbrev pub invariant-loop-left : goal.invariant-loop-left
invariant-loop-left l = Going l.n l.w l.left l.from l.at l.initial.bytes l.bytes
