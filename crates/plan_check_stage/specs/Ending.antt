-- What is asked and said of the end of a stage and its words. Assumes nothing.
use Rattle.std.specs.Prelude.{ℕ, ◌+◌, ◌*◌, ◌≤◌, ◌<◌, ◌≡◌, Bool, true, ◌||◌, List, map, length, get_or}
use Rattle.rules.specs.Lists.{every, up_to}
use Rattle.rules.specs.Cells.{empty, word_limit, word_fits, row, first_empty}
use Rattle.rules.specs.Faults.{is_found, end_right, holds_in}
use Rattle.plan_check_stage.specs.Marks.{marked}

-- n words from the i-th on; words that aren't there are the empty mark
unfoldable pub words_from : ℕ → ℕ → List ℕ → List ℕ
words_from n i words = map (λ k. get_or words k empty) (up_to n i)

pub record HasFree (K : ℕ) (cells : List ℕ) (r : Bool) : Type 0 where
  pub is : r ≡ is_found (first_empty 0 (row K 1 cells))

pub record WordsRight (K : ℕ) (words : List ℕ) (n : ℕ) (r : Bool) : Type 0 where
  pub is : r ≡ every (word_fits K) (words_from n 0 words)
  pub there : r ≡ true → n ≤ length words
  pub below : r ≡ true → (i : ℕ) → i < n → get_or words i 0 < word_limit K

-- so many words are there, and their cells are in the stage
pub record WordsAt (cells words : List ℕ) (n : ℕ) : Type 0 where
  pub there : n ≤ length words
  pub inside : (i : ℕ) → i < n → 32 * get_or words i 0 + 32 ≤ length cells

pub record EndRight (K : ℕ) (cells words : List ℕ) (n room : ℕ) (r : Bool) : Type 0 where
  pub is : r ≡ end_right K room (record { plan = cells; words = words_from n 0 words })
  pub few : r ≡ true → n ≤ room
  pub at : r ≡ true → WordsAt cells words n

-- pins of these words have marks too
pub record WordsMark (cells words : List ℕ) (n : ℕ) (l l' : List ℕ) : Type 0 where
  pub len : length l' ≡ length l
  pub each : (q : ℕ) → q < length l → marked l' q ≡ (marked l q || holds_in q cells (words_from n 0 words))
