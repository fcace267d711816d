-- `listing_lines::cell_lines` meets its contract. After p turns the lines of the first p cells are laid. Assumes nothing.
use Prim.Native.Nat.{◌-◌, ◌≤◌}
use lib.ListN.{length, take}
use Rattle.rules.specs.Listing.{cell_lines}
use Rattle.listing_lines.specs.Laid.{Laid}
use Rattle.listing_lines.proofs.cell_lines.Given as goal

abbrev pub invariant-loop-p : goal.invariant-loop-p
invariant-loop-p l = (l.p ≤ length l.cells) × Laid l.limit l.at (cell_lines 0 (take l.p l.cells)) l.initial.out l.now l.out
