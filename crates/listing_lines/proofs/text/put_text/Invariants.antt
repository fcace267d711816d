-- `listing_lines::text::put_text` meets its contract. After i turns the first i bytes are laid. Assumes nothing.
use Prim.Native.Nat.{◌-◌, ◌≤◌}
use lib.ListN.{length, take}
use Rattle.listing_lines.specs.Laid.{Laid}
use Rattle.listing_lines.proofs.text.put_text.Given as goal

abbrev pub invariant-loop-b : goal.invariant-loop-b
invariant-loop-b l = (l.b-index ≤ length l.text) × Laid l.limit l.at (take l.b-index l.text) l.initial.out l.now l.out
