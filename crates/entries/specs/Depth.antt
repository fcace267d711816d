-- What the entries that tell D and what is set aside return and leave. Assumes nothing.
use Rattle.std.specs.Prelude.{List, [], ◌∷◌, ℕ}
use Rattle.depth.specs.Calls.{tell_depth, tell_aside}
use Rattle.entries.specs.Entry.{Entry, entered}

-- number, D and pin, and the work area
unfoldable pub depth_told : (gates given records work answer : List ℕ) → Entry (List ℕ)
depth_told gates given records work xs =
    let o = tell_depth gates given records work in
    entered work o.work o.number (o.told ∷ o.pin ∷ []) xs

-- number, memories, duplicates, words set aside and pin, and the work area
unfoldable pub reserved_told : (gates given records work answer : List ℕ) → Entry (List ℕ)
reserved_told gates given records work xs =
    let o = tell_aside gates given records work in
    entered work o.work o.number (o.told.memories ∷ o.told.duplicates ∷ o.told.words ∷ o.pin ∷ []) xs
