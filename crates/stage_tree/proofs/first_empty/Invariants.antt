-- `stage_tree::first_empty` meets its contract: the cells passed are filled, so the search from a is the search from p. Assumes nothing.
use Prim.Native.Nat.{◌≤◌}
use mathlib.Core.Path.{◌≡◌}
use Rattle.rules.specs.Cells.{first_empty}
use Rattle.stage_tree.specs.Search.{part}
use Rattle.stage_tree.proofs.first_empty.Given as goal

abbrev pub invariant-loop-c : goal.invariant-loop-c
invariant-loop-c l = (l.a ≤ l.c) × (l.c ≤ l.e) × (first_empty l.a (part l.stage l.a l.e) ≡ first_empty l.c (part l.stage l.c l.e))
