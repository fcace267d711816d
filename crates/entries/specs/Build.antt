-- What the entries of a build return and leave. Assumes nothing.
use Rattle.std.specs.Prelude.{List, [], ◌∷◌, ℕ}
use Rattle.rules.specs.Traversal.{needed_runs}
use Rattle.rules.specs.Build as rules
use Rattle.entries.specs.Entry.{Entry, entered}
use Rattle.entries.specs.Rule.{Rule?, refusal_of, ruled}

-- what a reply has behind its number
unfoldable pub rest : rules.Reply → List ℕ
rest r = r.stages ∷ r.words ∷ r.stage ∷ r.pin ∷ r.cells ∷ []

unfoldable pub built : ℕ → (gates given records : List ℕ) → rules.Areas → List ℕ → Entry rules.Areas
built K gates given records a xs =
    let o = rules.placer needed_runs K gates given records a in
    entered a o.areas o.reply.number (rest o.reply) xs

unfoldable pub built_by : Rule? → ℕ → (gates given records : List ℕ) → rules.Areas → List ℕ → Entry rules.Areas
built_by r K gates given records a xs = ruled (refusal_of r) a (rest (rules.refuse (refusal_of r) 0)) xs (built K gates given records a xs)
