-- A text where it fits, and where it does not. Assumes nothing.
use mathlib.Core.Path.{◌≡◌, ap}
use mathlib.Core.List.{List}
use Prim.Native.Nat.{ℕ, ◌+◌, ◌≤◌, ◌<◌}
use native.Mathlib.Omega.{arith}
use lib.Dec.{leb}
use lib.ListN.{length}
use borrow.Author.Tests.{leb-true, le-leb, lt-leb}
use Rattle.rules.proofs.Lists.Members.{split}
use Rattle.listing_lines.specs.Laid.{Laid}
use Rattle.listing_lines.proofs.Laws.Fits.{laid_past, laid_fits, laid_length, laid_whole}
use Rattle.listing.specs.Listing.{Outcome, outcome, written}

-- a text measured in another area, and then laid or not
module _ (text o : List ℕ) {o1 o2 : List ℕ} {limit r : ℕ} (l : limit ≡ length o + 1) (m : Laid limit 0 text o1 r o2) where
  -- a text longer than the area answers 2 and leaves the area
  pub written_not : length o < r → written text o ≡ outcome 2 0 o
  unfolding written
  written_not h = rw (lt-leb (length text) (length o) (laid_past text o l m h), written)

  -- a text that fits stands over the area's front, and its length is answered
  pub written_all : {r2 : ℕ} {o3 : List ℕ} → r ≤ length o → Laid limit 0 text o r2 o3 → outcome 0 r o3 ≡ written text o
  unfolding written
  written_all h b = rw (le-leb (length text) (length o) (laid_fits text o l m h), laid_length text o l m h, laid_whole text o l m h b, written)

-- the length that is answered is within the area
pub written_within : (text o : List ℕ) (number size : ℕ) (o' : List ℕ) → outcome number size o' ≡ written text o → size ≤ length o
unfolding outcome written
written_within text o number size o' e = split (leb (length text) (length o))
    (λ t. let d : size ≡ length text = ap (λ (x : Outcome). x.length) (rw (t, written) at e) in omega (arith, leb-true (length text) (length o) t))
    (λ f. let d : size ≡ 0 = ap (λ (x : Outcome). x.length) (rw (f, written) at e) in omega arith)
