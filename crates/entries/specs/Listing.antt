-- What the entry of a listing returns and leaves. Assumes nothing.
use Rattle.std.specs.Prelude.{List, [], ◌∷◌, ℕ}
use Rattle.listing.specs.Listing.{answered}
use Rattle.entries.specs.Entry.{Entry, entered}

-- number and length, and the area for the text
unfoldable pub answer_listed : (K number stages stage pin : ℕ) → (plan words counts out answer : List ℕ) → Entry (List ℕ)
answer_listed K number stages stage pin plan words counts out xs =
    let o = answered K number stages stage pin plan words counts out in
    entered out o.out o.number (o.length ∷ []) xs
