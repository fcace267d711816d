-- Rule 10 as a whole. pl is the stage, w the work area. Assumes nothing.
use Rattle.std.specs.Prelude.{◌≡◌, List, [], ◌∷◌, ℕ, ◌+◌, ◌*◌, ◌^◌, ◌<◌, ◌≤◌, length, get_or}
use Rattle.rules.specs.Lists.{keep, insert_all, laid_at}
use Rattle.columns.specs.Fields.{WAITING, STACK, MARK, TAIL}
use Rattle.columns.specs.Area.{Frame}
use Rattle.columns.specs.Lists.{list, Holds, Marked}
use Rattle.stage_ending.specs.declared.last.Kept.{Kept}
use Rattle.stage_ending.specs.Close.{is_tree}
use Rattle.stage_ending.specs.Words.{is_end, UpAt, words_from}

pub record LastAt (m K half n at room : ℕ) (s : Kept) (pl w words : List ℕ) : Type 0 where
  pub up : UpAt m K half pl w
  pub waiting : Holds WAITING m n (list WAITING m n w) w
  pub real : Marked STACK MARK m s.real (list STACK m s.real w) w
  pub spent : s.words ≤ room
  pub fits : at + room ≤ length words
  pub small : length words < 2 ^ 63

-- the endpoints' words
unfoldable pub end_words : ℕ → ℕ → List ℕ → List ℕ → List ℕ
end_words m K pl w = words_from (is_end m w) K K 1 pl []

pub record Lasted (m K n at room : ℕ) (s : Kept) (pl w words : List ℕ) (e : Kept) (w' words' : List ℕ) : Type 0 where
  pub frame : Frame (STACK ∷ MARK ∷ TAIL ∷ []) m w w'
  pub past : (j : ℕ) → 256 ≤ j → get_or w' (16 * m + j) 0 ≡ get_or w (16 * m + j) 0
  pub len : length words' ≡ length words
  pub more : s.words + length (end_words m K pl w) ≤ room →
      (e.words ≡ s.words + length (end_words m K pl w)) × (words' ≡ laid_at (at + s.words) (end_words m K pl w) words) × Marked STACK MARK m e.real
      (insert_all (keep (is_tree m w) (list WAITING m n w)) (list STACK m s.real w)) w'
  pub none : room < s.words + length (end_words m K pl w) →
      (e.words ≡ s.words) × (words' ≡ words) × Marked STACK MARK m e.real (list STACK m s.real w) w'
