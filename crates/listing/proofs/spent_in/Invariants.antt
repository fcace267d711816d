-- `listing::spent_in` meets its contract. What is left is what the first i counts leave of the most. Assumes nothing.
use mathlib.Core.Path.{◌≡◌}
use Prim.Native.Nat.{◌+◌, ◌≤◌}
use lib.ListN.{take}
use Rattle.rules.specs.Lists.{sum}
use Rattle.listing.proofs.spent_in.Given as goal

abbrev pub invariant-loop-c : goal.invariant-loop-c
invariant-loop-c l = (l.c-index ≤ l.n) × (l.left + sum (take l.c-index l.counts) ≡ l.most)
