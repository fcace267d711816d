-- `merge_layout::clear_lists` meets its contract: the places passed are 0. Assumes nothing.
use Prim.Native.Nat.{◌≤◌}
use Rattle.merge_layout.specs.Layout.{Cleared}
use Rattle.merge_layout.proofs.clear_lists.Given as goal

abbrev pub invariant-loop-i : goal.invariant-loop-i
invariant-loop-i l = Cleared l.n l.i l.initial.own l.own × (l.i ≤ l.n)
