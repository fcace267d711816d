-- `aiger_text::passes::first_place` meets its contract. Assumes nothing.
use Prim.Native.Nat.{◌*◌}
use Rattle.aiger_rows.specs.Rows.{head_of}
use Rattle.aiger_text.proofs.Laws.Whole.{Sofar}
use Rattle.aiger_text.proofs.passes.first_place.Given as goal

abbrev pub invariant-loop-w : goal.invariant-loop-w
invariant-loop-w l = Sofar (head_of l.h) l.start l.bytes l.map l.initial.gates l.gates l.s.cut (65536 * l.w) l.first
