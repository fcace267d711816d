-- The two calls on lent areas, answer and areas at exit. Refusals change nothing. Assumes nothing.
use Rattle.std.specs.Prelude.{ℕ, zero, suc, ◌*◌, Bool, true, false, ◌&&◌, List, [], ◌∷◌, leb, length, get_or, take, drop}
use Rattle.rules.specs.Lists.{sum, padded, laid_over}
use Rattle.rules.specs.Cells.{empty, stage_size, word_limit, rooms}
use Rattle.rules.specs.Build.{Stage, cells_of, words_of, counts_of}
use Rattle.rules.specs.Job.{File?, no_file, file}
use Rattle.sheet_form.specs.Forms.{Form}
use Rattle.sheet_form.specs.Sheets.{Sheet, write_sheet, Sheet?, refused, sheet}
use Rattle.sheet_form.specs.Lifting.{read_either}

-- the areas that a build fills
pub record Areas : Type 0 where
  pub plan : List ℕ
  pub words : List ℕ
  pub counts : List ℕ

-- the areas by their numbers
abbrev pub areas : (p w c : List ℕ) → Areas
areas p w c = record { plan = p; words = w; counts = c }

-- ---- writing: the height and a build's stages, from its areas

-- n stages as they stand in the areas: 2^(K+1) cells each, and as many words as its count says
unfoldable pub stages_in : (K n : ℕ) → (plan words counts : List ℕ) → List Stage
stages_in K zero plan words counts = []
stages_in K (suc n) plan words counts =
    record { plan = take (stage_size K) plan; words = take (get_or counts 0 0) words }
    ∷ stages_in K n (drop (stage_size K) plan) (drop (get_or counts 0 0) words) (drop 1 counts)

-- do the areas hold n stages
unfoldable pub stand : (K n : ℕ) → Areas → Bool
stand K n a = leb (n * stage_size K) (length a.plan) && leb n (length a.counts) && leb (sum (take n a.counts)) (length a.words)

-- the height, and the stages in the areas
abbrev pub sheet_of : (K n : ℕ) → Areas → Sheet
sheet_of K n a = record { height = K; stages = stages_in K n a.plan a.words a.counts }

-- their sheet, or none
unfoldable pub sheet_in : Form → (K n : ℕ) → Areas → File?
sheet_in F K n a = elim (stand K n a) [ true ↦ write_sheet F (sheet_of K n a) | false ↦ no_file ]

-- the number, how many bytes the sheet has, and the lent bytes at exit
pub record Written : Type 0 where
  pub number : ℕ
  pub length : ℕ
  pub bytes : List ℕ

-- the same by its parts
abbrev pub written : (number size : ℕ) → List ℕ → Written
written n k xs = record { number = n; length = k; bytes = xs }

-- a refusal: nothing changed
unfoldable pub unwritten : ℕ → List ℕ → Written
unwritten n xs = record { number = n; length = 0; bytes = xs }

-- 15 for what no sheet can hold, then 17 where the bytes are too few
unfoldable pub into : File? → List ℕ → Written
into no_file xs = unwritten 15 xs
into (file bs) xs = elim (leb (length bs) (length xs)) [ true ↦ record { number = 0; length = length bs; bytes = laid_over bs xs } | false ↦ unwritten 17 xs ]

-- the whole call
unfoldable pub writer : Form → (K n : ℕ) → Areas → List ℕ → Written
writer F K n a bytes = into (sheet_in F K n a) bytes

-- ---- reading: the areas then stand as a build leaves them

-- the number, the height, the stages and the words; all 0 on refusal but the number
pub record Reply : Type 0 where
  pub number : ℕ
  pub height : ℕ
  pub stages : ℕ
  pub words : ℕ

-- the answer, and the areas at exit
pub record Loaded : Type 0 where
  pub reply : Reply
  pub areas : Areas

-- the same by its parts
abbrev pub loaded : (number height stages words : ℕ) → Areas → Loaded
loaded n K s w a = record { reply = record { number = n; height = K; stages = s; words = w }; areas = a }

-- a refusal: nothing changed
unfoldable pub unread : ℕ → Areas → Loaded
unread n a = record { reply = record { number = n; height = 0; stages = 0; words = 0 }; areas = a }

-- 17: a room a stage, a count a room, W words or as many as the sheet has
unfoldable pub roomy : Sheet → Areas → Bool
roomy S a =
    leb (length S.stages) (rooms S.height (length a.plan)) && leb (rooms S.height (length a.plan)) (length a.counts)
    && leb (word_limit S.height) (length a.words) && leb (length (words_of S.stages)) (length a.words)

-- unused cells of the rooms and words of W the empty mark, unused counts of the rooms 0; the rest as it was
unfoldable pub areas_with : Sheet → Areas → Areas
areas_with S a = record {
  plan = laid_over (padded (rooms S.height (length a.plan) * stage_size S.height) empty (cells_of S.stages)) a.plan;
  words = laid_over (padded (word_limit S.height) empty (words_of S.stages)) a.words;
  counts = laid_over (padded (rooms S.height (length a.plan)) 0 (counts_of S.stages)) a.counts;
}

-- 15 and 16 by the bytes, then 17 by the areas
unfoldable pub from : Sheet? → Areas → Loaded
from (refused n) a = unread n a
from (sheet S) a =
    elim (roomy S a) [
      | true ↦ record { reply = record { number = 0; height = S.height; stages = length S.stages; words = length (words_of S.stages) }; areas = areas_with S a }
      | false ↦ unread 17 a
    ]

-- the whole call
unfoldable pub reader : (gates bytes : List ℕ) → Areas → Loaded
reader gates bytes a = from (read_either gates bytes) a
