-- A stage that was read, and its numbers in the areas, as far as these reach. Assumes nothing.
use Rattle.std.specs.Prelude.{◌≡◌, true, List, [], ◌∷◌, ℕ, zero, suc, ◌+◌, ◌*◌, ◌^◌, ◌<◌, ◌≤◌, length, set, drop}
use Rattle.std.proofs.lemmas.List.Edits.{sets}
use Rattle.rules.specs.Cells.{is_height, stage_size}
use Rattle.rules.specs.Graph.{Node, graph_of}
use Rattle.rules.specs.Build.{Stage, cells_of, words_of, counts_of}
use Rattle.rules.specs.Job.{Read, cut, got, next}
use Rattle.bits.specs.Fields.{bits_in}
use Rattle.sheet_form.specs.Sheets.{read_words}
use Rattle.sheet_plan.specs.Plans.{plan_with}

-- the words, and the cells with their inversions, by the sheet number and the graph
unfoldable pub stage_with : (number K : ℕ) → List Node → List ℕ → Read Stage
stage_with number K g bs = next (read_words K bs) (λ ws cs. next (plan_with number K g cs) (λ pl ds. got (record { plan = pl; words = ws }) ds))

-- n stages
unfoldable pub stages_with : (number K : ℕ) → List Node → ℕ → List ℕ → Read (List Stage)
stages_with number K g zero bs = got [] bs
stages_with number K g (suc n) bs = next (stage_with number K g bs) (λ s cs. next (stages_with number K g n cs) (λ ss ds. got (s ∷ ss) ds))

-- the walk stands before a word count, with so many words stored
pub record CountedAt (K at total : ℕ) (xs : List ℕ) : Type 0 where
  pub height : is_height K ≡ true
  pub small : length xs ≤ 2 ^ 40
  pub inside : at ≤ 8 * length xs
  pub room : total ≤ 2 * at

-- words that were read
pub record CountedIs (K i : ℕ) (xs : List ℕ) (at total : ℕ) (w c w' c' : List ℕ) (at' total' : ℕ) : Type 0 where
  pub ws : List ℕ
  pub is : read_words K (drop at (bits_in xs)) ≡ got ws (drop at' (bits_in xs))
  pub words : w' ≡ sets w total ws
  pub counts : c' ≡ set c i (length ws)
  pub sum : total' ≡ total + length ws
  pub few : total' + 2 * at ≤ total + 2 * at'

-- past the end 15 refuses them
pub record CountedTook (K i : ℕ) (xs : List ℕ) (at total : ℕ) (w c w' c' : List ℕ) (at' total' : ℕ) : Type 0 where
  pub words : length w' ≡ length w
  pub counts : length c' ≡ length c
  pub lost : 8 * length xs < at' → read_words K (drop at (bits_in xs)) ≡ cut
  pub read : at' ≤ 8 * length xs → CountedIs K i xs at total w c w' c' at' total'

-- the walk stands before stage i, with so many words stored, and an area for its cells
pub record StageAt (K i at total : ℕ) (xs cells : List ℕ) : Type 0 where
  pub height : is_height K ≡ true
  pub few : i ≤ 65535
  pub small : length xs ≤ 2 ^ 40
  pub inside : at ≤ 8 * length xs
  pub room : total ≤ 2 * at
  pub size : length cells ≡ stage_size K

-- the areas keep their lengths
pub record Kept (p w c p' w' c' : List ℕ) : Type 0 where
  pub plan : length p' ≡ length p
  pub words : length w' ≡ length w
  pub counts : length c' ≡ length c

-- a stage that was read: its numbers from where the stages before it end
pub record StageIs (number K : ℕ) (gates : List ℕ) (i : ℕ) (xs : List ℕ) (at total : ℕ) (p w c p' w' c' : List ℕ) (at' total' : ℕ) : Type 0 where
  pub s : Stage
  pub is : stage_with number K (graph_of gates) (drop at (bits_in xs)) ≡ got s (drop at' (bits_in xs))
  pub size : length s.plan ≡ stage_size K
  pub plan : p' ≡ sets p (i * stage_size K) s.plan
  pub words : w' ≡ sets w total s.words
  pub counts : c' ≡ set c i (length s.words)
  pub sum : total' ≡ total + length s.words
  pub few : total' + 2 * at ≤ total + 2 * at'

-- past the end 15 refuses it
pub record StageTook (number K : ℕ) (gates : List ℕ) (i : ℕ) (xs : List ℕ) (at total : ℕ) (cells p w c cells' p' w' c' : List ℕ) (at' total' : ℕ) : Type 0 where
  pub kept : Kept p w c p' w' c'
  pub area : length cells' ≡ length cells
  pub lost : 8 * length xs < at' → stage_with number K (graph_of gates) (drop at (bits_in xs)) ≡ cut
  pub read : at' ≤ 8 * length xs → StageIs number K gates i xs at total p w c p' w' c' at' total'

-- the walk stands before n stages, behind number, height and stage count
pub record StagesAt (K n : ℕ) (xs cells : List ℕ) : Type 0 where
  pub height : is_height K ≡ true
  pub few : n ≤ 65535
  pub small : length xs ≤ 2 ^ 40
  pub inside : 28 ≤ 8 * length xs
  pub size : length cells ≡ stage_size K

-- stages that were read, from the front of the areas on
pub record StagesAre (number K : ℕ) (gates : List ℕ) (n : ℕ) (xs p w c p' w' c' : List ℕ) (at' total : ℕ) : Type 0 where
  pub ss : List Stage
  pub is : stages_with number K (graph_of gates) n (drop 28 (bits_in xs)) ≡ got ss (drop at' (bits_in xs))
  pub plan : p' ≡ sets p 0 (cells_of ss)
  pub words : w' ≡ sets w 0 (words_of ss)
  pub counts : c' ≡ sets c 0 (counts_of ss)
  pub sum : total ≡ length (words_of ss)
  pub size : length (cells_of ss) ≡ n * stage_size K
  pub count : length (counts_of ss) ≡ n

-- past the end 15 refuses them
pub record StagesTook (number K : ℕ) (gates : List ℕ) (n : ℕ) (xs cells p w c cells' p' w' c' : List ℕ) (at' total : ℕ) : Type 0 where
  pub kept : Kept p w c p' w' c'
  pub area : length cells' ≡ length cells
  pub lost : 8 * length xs < at' → stages_with number K (graph_of gates) n (drop 28 (bits_in xs)) ≡ cut
  pub read : at' ≤ 8 * length xs → StagesAre number K gates n xs p w c p' w' c' at' total
