-- `bits::field` meets its contract: the number of the bits so far. Assumes nothing.
use Prim.Native.Nat.{◌-◌}
use Rattle.bits.proofs.Laws.Fields.{Summed}
use Rattle.bits.proofs.field.Given as goal

abbrev pub invariant-loop-i : goal.invariant-loop-i
invariant-loop-i l = Summed l.at l.w l.bytes l.i l.n
