-- The walk through a whole sheet. Assumes nothing.
use Rattle.std.specs.Prelude.{◌≡◌, Option, Some, None, MatchOption, Result, Ok, Err, ◌+◌, true, false, ◌&&◌, List, ℕ, ◌*◌, ◌^◌, ◌<◌, ◌≤◌, ltb, eqb, length, get_or, drop}
use Rattle.std.proofs.lemmas.List.Edits.{sets}
use Rattle.rules.specs.Cells.{is_height, stage_size}
use Rattle.rules.specs.Build.{Stage, cells_of, words_of, counts_of}
use Rattle.rules.specs.Graph.{Node, graph_of}
use Rattle.rules.specs.Job.{Read, cut, got, next, field}
use Rattle.bits.specs.Fields.{bits_in}
use Rattle.sheet_form.specs.Sheets.{Sheet, read_height, refused, sheet}
use Rattle.sheet_form.specs.Calls.{Areas, Reply, Loaded}
use Rattle.refusals.specs.declared.Refusal.{Refusal}
use Rattle.refusals.specs.Numbers.{number_of}
use Rattle.sheet_read.specs.declared.walk.Contents.{Contents}
use Rattle.sheet_read.specs.declared.walk.Extent.{Extent}
use Rattle.sheet_form.specs.Lifting.{read_either}
use Rattle.sheet_read.specs.Stages.{stages_with, Kept, StagesAre}

-- height 4, stage count 16, the stages with their cells
unfoldable pub body_with : ℕ → List Node → List ℕ → Read Sheet
body_with number g bs =
    next (read_height bs) (λ K b1. next (field 16 b1) (λ n b2. next (stages_with number K g n b2) (λ ss b3. got (record { height = K; stages = ss }) b3)))

-- the sheet number that the first byte names, where it can be read: 1 needs a graph
unfoldable pub known_number : (first graph : ℕ) → ℕ
known_number first graph = elim (eqb first 2) [ true ↦ 2 | false ↦ elim (eqb first 1 && ltb 0 graph) [ true ↦ 1 | false ↦ 0 ] ]

-- the walk stands before n stages
pub record WalkAt (K n : ℕ) (xs : List ℕ) : Type 0 where
  pub height : is_height K ≡ true
  pub few : n ≤ 65535
  pub small : length xs ≤ 2 ^ 40
  pub inside : 28 ≤ 8 * length xs

-- past the end 15 refuses them
pub record WalkTook (number K : ℕ) (gates : List ℕ) (n : ℕ) (xs p w c p' w' c' : List ℕ) (at' total : ℕ) : Type 0 where
  pub kept : Kept p w c p' w' c'
  pub lost : 8 * length xs < at' → stages_with number K (graph_of gates) n (drop 28 (bits_in xs)) ≡ cut
  pub read : at' ≤ 8 * length xs → StagesAre number K gates n xs p w c p' w' c' at' total

-- bytes that the walk goes through
pub record SheetAt (xs : List ℕ) : Type 0 where
  pub some : 1 ≤ length xs
  pub small : length xs ≤ 2 ^ 40

-- a bit of them
pub record PaddingAt (at : ℕ) (xs : List ℕ) : Type 0 where
  pub small : length xs ≤ 2 ^ 40
  pub inside : at ≤ 8 * length xs

-- a sheet by its parts
abbrev pub sheet_with : ℕ → List Stage → Sheet
sheet_with K ss = record { height = K; stages = ss }

-- the stages that were read, behind the sheet number's byte
pub record Met (number : ℕ) (gates xs : List ℕ) (at K n total : ℕ) : Type 0 where
  pub ss : List Stage
  pub height : is_height K ≡ true
  pub few : n ≤ 65535
  pub is : body_with number (graph_of gates) (drop 8 (bits_in xs)) ≡ got (sheet_with K ss) (drop at (bits_in xs))
  pub sum : total ≡ length (words_of ss)
  pub size : length (cells_of ss) ≡ n * stage_size K
  pub count : length (counts_of ss) ≡ n

-- past the end 15 refuses them
pub record Measured (number : ℕ) (gates xs : List ℕ) (at K n total : ℕ) : Type 0 where
  pub lost : 8 * length xs < at → body_with number (graph_of gates) (drop 8 (bits_in xs)) ≡ cut
  pub read : at ≤ 8 * length xs → Met number gates xs at K n total

-- they stand in the areas, as far as these reach
pub record Stored (ss : List Stage) (p w c p' w' c' : List ℕ) : Type 0 where
  pub plan : p' ≡ sets p 0 (cells_of ss)
  pub words : w' ≡ sets w 0 (words_of ss)
  pub counts : c' ≡ sets c 0 (counts_of ss)

-- the whole walk, storing
pub record Walked (number : ℕ) (gates xs p w c p' w' c' : List ℕ) (at K n total : ℕ) : Type 0 where
  pub kept : Kept p w c p' w' c'
  pub measured : Measured number gates xs at K n total
  pub stored : (h : at ≤ 8 * length xs) → Stored (measured.read h).ss p w c p' w' c'

-- past the end nothing was read
abbrev pub WalkedAs : (ℕ → ℕ → ℕ → ℕ → Type 0) → List ℕ → Option Extent → Type 0
WalkedAs P xs None = P (8 * length xs + 1) 0 0 0
WalkedAs P xs (Some e) = P e.at e.contents.height e.contents.stages e.contents.words × (e.at ≤ 8 * length xs)

-- the first byte names a sheet number that can be read
pub record Begins (number : ℕ) (gates xs : List ℕ) : Type 0 where
  pub some : 1 ≤ length xs
  pub is : number ≡ known_number (get_or xs 0 0) (length gates)
  pub known : number ≡ 0 → ⊥

-- the sheet that the bytes are
pub record Known (number : ℕ) (gates xs : List ℕ) (K n total : ℕ) : Type 0 where
  pub ss : List Stage
  pub some : 1 ≤ length xs
  pub small : length xs ≤ 2 ^ 40
  pub height : is_height K ≡ true
  pub few : n ≤ 65535
  pub at : ℕ
  pub body : body_with number (graph_of gates) (drop 8 (bits_in xs)) ≡ got (sheet_with K ss) (drop at (bits_in xs))
  pub is : read_either gates xs ≡ sheet (sheet_with K ss)
  pub sum : total ≡ length (words_of ss)
  pub size : length (cells_of ss) ≡ n * stage_size K
  pub count : length (counts_of ss) ≡ n

-- 15 or a sheet
abbrev pub JudgedAs : (number : ℕ) (gates xs : List ℕ) → Option Contents → Type 0
JudgedAs number gates xs r = MatchOption r (read_either gates xs ≡ refused 15) (λ s. Known number gates xs s.height s.stages s.words)

-- the answer
abbrev pub reply : Result Contents Refusal → Reply
reply (Ok s) = record { number = 0; height = s.height; stages = s.stages; words = s.words }
reply (Err why) = record { number = number_of why; height = 0; stages = 0; words = 0 }

-- with the areas at exit
abbrev pub told : Result Contents Refusal → Areas → Loaded
told r a = record { reply = reply r; areas = a }
