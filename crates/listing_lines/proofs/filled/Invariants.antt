-- `listing_lines::filled` meets its contract. After i turns n counts the first i cells. Assumes nothing.
use mathlib.Core.Path.{◌≡◌}
use Prim.Native.Nat.{◌-◌, ◌≤◌}
use lib.ListN.{length, take}
use Rattle.rules.specs.Lists.{count}
use Rattle.rules.specs.Cells.{filled}
use Rattle.listing_lines.proofs.filled.Given as goal

abbrev pub invariant-loop-c : goal.invariant-loop-c
invariant-loop-c l = (l.c-index ≤ length l.cells) × (l.n ≤ l.c-index) × (l.n ≡ count filled (take l.c-index l.cells))
