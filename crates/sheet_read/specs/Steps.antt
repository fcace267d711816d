-- What a step of the walk reads: a word. Assumes nothing.
use Rattle.std.specs.Prelude.{◌≡◌, Option, Some, None, true, false, List, [], ◌∷◌, ℕ, ◌+◌, ◌*◌, ◌^◌, ◌≤◌, length}
use Rattle.sheet_read.specs.declared.steps.Step.{Step}
use Rattle.rules.specs.Lists.{every}
use Rattle.rules.specs.Cells.{is_height, word_fits}
use Rattle.rules.specs.Job.{Read, cut, got, next, field, fields}

-- a word below W, as a list
unfoldable pub one_word : ℕ → List ℕ → Read (List ℕ)
one_word K bs = next (field 8 bs) (λ w cs. elim (word_fits K w) [ true ↦ got (w ∷ []) cs | false ↦ cut ])

-- n words, each below W
unfoldable pub words_read : ℕ → ℕ → List ℕ → Read (List ℕ)
words_read K n bs = next (fields n 8 bs) (λ ws ds. elim (every (word_fits K) ws) [ true ↦ got ws ds | false ↦ cut ])

-- the walk stands at a bit before words, with s of them stored
pub record WordsAt (K at s : ℕ) (xs : List ℕ) : Type 0 where
  pub height : is_height K ≡ true
  pub small : length xs ≤ 2 ^ 40
  pub inside : at ≤ 8 * length xs
  pub room : s ≤ 2 ^ 50 + 2 * at

-- a step by what it reads up to a bit, and how many numbers are stored then; past the end nothing was read
abbrev pub TookAs : (ℕ → ℕ → Type 0) → List ℕ → Option Step → Type 0
TookAs P xs None = P (8 * length xs + 1) 0
TookAs P xs (Some r) = P r.at r.count × (r.at ≤ 8 * length xs)
