-- `reservation_count::walks::walk_all` meets its contract. Assumes nothing.
use mathlib.Core.List.{List}
use Prim.Native.Nat.{ℕ}
use Rattle.reservation_count.specs.Walks.{AllAt}
use Rattle.reservation_count.proofs.Laws.Walks.{Residues}
use Rattle.reservation_count.proofs.walks.walk_all.Given as goal

abbrev pub invariant-loop-r : goal.invariant-loop-r
invariant-loop-r l = (cs : List ℕ) → AllAt l.records l.links l.initial.stamps l.head l.base cs → Residues l.initial.stamps l.head l.base cs l.r l.n l.stamps
