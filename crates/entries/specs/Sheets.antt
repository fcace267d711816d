-- What the entries of a plan sheet return and leave. Assumes nothing.
use Rattle.std.specs.Prelude.{List, [], ◌∷◌, ℕ}
use Rattle.sheet_form.specs.Forms.{sheet_two}
use Rattle.sheet_form.specs.Calls.{Areas, writer, reader}
use Rattle.entries.specs.Entry.{Entry, entered}

-- number, height, stages and words, and the areas
unfoldable pub sheet_read : (gates bytes : List ℕ) → Areas → List ℕ → Entry Areas
sheet_read gates bytes a xs =
    let o = reader gates bytes a in
    entered a o.areas o.reply.number (o.reply.height ∷ o.reply.stages ∷ o.reply.words ∷ []) xs

-- number and length, and the bytes
unfoldable pub sheet_written : (K n : ℕ) → Areas → (bytes answer : List ℕ) → Entry (List ℕ)
sheet_written K n a bytes xs =
    let o = writer sheet_two K n a bytes in
    entered bytes o.bytes o.number (o.length ∷ []) xs
