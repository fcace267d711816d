-- The slots that pins are read from, by the words of a plan. Assumes nothing.
use Rattle.std.specs.Prelude.{ℕ, ◌+◌, ◌*◌, ◌≤◌, ◌<◌, ◌≡◌, List, [], ◌∷◌, length, get_or, take, drop}
use Rattle.rules.specs.Lists.{Found, nothing, found, sum}
use Rattle.rules.specs.Fold.{first_at}
use Rattle.rules.specs.Coded.{pins}
use Rattle.replay_form.specs.Plans.{in_words}

-- the slot at a place, or else what stood
unfoldable pub slot_or : List ℕ → ℕ → Found → ℕ
slot_or slots old nothing = old
slot_or slots old (found p) = get_or slots p 0

-- every pin's slot is that of the place found, or else what stood
pub record Slotted (slots reads reads' : List ℕ) (place : ℕ → Found) : Type 0 where
  pub len : length reads' ≡ length reads
  pub each : (q : ℕ) → q < length reads → get_or reads' q 0 ≡ slot_or slots (get_or reads q 0) (place q)

-- the pins of a word have their slots
abbrev pub WordRead : (cells slots : List ℕ) → ℕ → (reads reads' : List ℕ) → Type 0
WordRead cells slots w reads reads' = Slotted slots reads reads' (λ q. first_at q (32 * w) (take 32 (drop (32 * w) (pins cells))))

-- the pins of a stage's words
abbrev pub WordsRead : (cells slots words reads reads' : List ℕ) → Type 0
WordsRead cells slots words reads reads' = Slotted slots reads reads' (λ q. in_words (pins cells) q words)

-- where the first stage that writes a pin does, by the counts of words: `written_at` of the stages laid out
unfoldable pub written_by : (size from q : ℕ) → (plan words counts : List ℕ) → Found
written_by size from q plan words [] = nothing
written_by size from q plan words (c ∷ cs) = elim (in_words (pins (take size plan)) q (take c words)) [
  | nothing ↦ written_by size (from + size) q (drop size plan) (drop c words) cs
  | found p ↦ found (from + p)
]

-- stages, slots, words and counts that fit together
pub record PlanAt (size : ℕ) (plan slots words counts : List ℕ) (total : ℕ) : Type 0 where
  pub room : size * length counts ≤ length plan
  pub slotted : length plan ≤ length slots
  pub written : total ≤ length words
  pub counted : total ≡ sum counts

-- the pins of all words
abbrev pub PlanRead : ℕ → (plan slots words counts reads reads' : List ℕ) → Type 0
PlanRead size plan slots words counts reads reads' = Slotted slots reads reads' (λ q. written_by size 0 q plan words counts)
