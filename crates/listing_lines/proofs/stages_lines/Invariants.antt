-- `listing_lines::stages_lines` meets its contract. After k turns the first k stages are laid. Assumes nothing.
use mathlib.Core.Path.{◌≡◌}
use Prim.Native.Nat.{◌-◌, ◌≤◌}
use lib.ListN.{take}
use Rattle.rules.specs.Lists.{sum}
use Rattle.rules.specs.Listing.{stages_lines}
use Rattle.listing_lines.specs.Laid.{Laid}
use Rattle.listing_lines.specs.Stages.{stages_in}
use Rattle.listing_lines.proofs.stages_lines.Given as goal

abbrev pub invariant-loop-k : goal.invariant-loop-k
invariant-loop-k l = (l.k ≤ l.n) × (l.from ≡ sum (take l.k l.counts)) × Laid l.limit l.at (stages_lines 1 (stages_in l.size l.k l.plan l.words l.counts)) l.initial.out l.now l.out
