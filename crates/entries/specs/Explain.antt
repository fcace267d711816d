-- What the entry of an explanation returns and leaves. Assumes nothing.
use Rattle.std.specs.Prelude.{List, [], ◌∷◌, ℕ}
use Rattle.rules.specs.Traversal.{needed_runs}
use Rattle.rules.specs.Build as rules
use Rattle.placer.specs.Answers.{areas}
use Rattle.why_form.specs.Why.{explainer}
use Rattle.entries.specs.Entry.{Entry, entered}
use Rattle.entries.specs.Rule.{Rule?, refusal_of, ruled}

-- the areas of a build, and the list for the lines
pub record Lent : Type 0 where
  pub areas : rules.Areas
  pub list : List ℕ

unfoldable pub lent_to : (plan words counts work list : List ℕ) → Lent
lent_to plan words counts work list = record { areas = areas plan words counts work; list = list }

-- a build's reply and the lines behind its number
unfoldable pub told : rules.Reply → ℕ → List ℕ
told r lines = r.stages ∷ r.words ∷ r.stage ∷ r.pin ∷ r.cells ∷ lines ∷ []

unfoldable pub build_explained : ℕ → (gates given records : List ℕ) → Lent → List ℕ → Entry Lent
build_explained K gates given records l xs =
    let o = explainer needed_runs K gates given records l.list l.areas in
    entered l (record { areas = o.areas; list = o.list }) o.reply.number (told o.reply o.lines) xs

unfoldable pub build_explained_by : Rule? → ℕ → (gates given records : List ℕ) → Lent → List ℕ → Entry Lent
build_explained_by r K gates given records l xs = ruled (refusal_of r) l (told (rules.refuse (refusal_of r) 0) 0) xs (build_explained K gates given records l xs)
