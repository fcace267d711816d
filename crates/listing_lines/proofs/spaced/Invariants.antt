-- `listing_lines::spaced` meets its contract. After i turns the first i words are laid. Assumes nothing.
use Prim.Native.Nat.{◌-◌, ◌≤◌}
use lib.ListN.{length, take}
use Rattle.rules.specs.Listing.{spaced}
use Rattle.listing_lines.specs.Laid.{Laid}
use Rattle.listing_lines.proofs.spaced.Given as goal

abbrev pub invariant-loop-word : goal.invariant-loop-word
invariant-loop-word l = (l.word-index ≤ length l.words) × Laid l.limit l.at (spaced (take l.word-index l.words)) l.initial.out l.now l.out
