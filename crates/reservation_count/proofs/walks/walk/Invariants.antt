-- `reservation_count::walks::walk` meets its contract. Assumes nothing.
use Prim.Native.Nat.{ℕ}
use mathlib.Core.List.{List}
use Rattle.reservation_count.specs.Walks.{WalkAt}
use Rattle.reservation_count.proofs.Laws.Walks.{Walking}
use Rattle.reservation_count.proofs.walks.walk.Given as goal

abbrev pub invariant-loop-h : goal.invariant-loop-h
invariant-loop-h l = (cs : List ℕ) → WalkAt l.records l.links l.initial.stamps l.head l.id cs → Walking l.records l.links l.initial.stamps l.head l.r l.id cs l.h l.n l.stamps

abbrev pub decreases-loop-h : goal.decreases-loop-h
decreases-loop-h l = l.h
