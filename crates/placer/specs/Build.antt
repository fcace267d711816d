-- The build of records that passed the checks 1 to 5 and 23, in areas of exactly their counted sizes. Assumes nothing.
use Rattle.std.specs.Prelude.{◌≡◌, Bool, true, false, Result, IfOk, List, ℕ, ◌*◌, length, replicate}
use Rattle.rules.specs.Lists.{padded}
use Rattle.rules.specs.Cells.{empty, word_limit, stage_size, rooms}
use Rattle.rules.specs.Graph.{Node}
use Rattle.rules.specs.Checks.{work_size}
use Rattle.rules.specs.Build as rules
use Rattle.checks.specs.Passed.{Passed}
use Rattle.placer.specs.declared.Built.{Built}
use Rattle.placer.specs.declared.Refused.{Refused}
use Rattle.placer.specs.Answers.{told}
use Rattle.placer.specs.Stages.{Kept}

pub record PlaceAt (K : ℕ) (gates given records pl ws cs w : List ℕ) : Type 0 where
  pub sized : Bool
  pub passed : Passed K sized gates given records
  pub plan : length pl ≡ rooms K (length pl) * stage_size K
  pub words : length ws ≡ word_limit K
  pub counts : length cs ≡ rooms K (length pl)
  pub work : length w ≡ work_size gates records

-- every area is empty
pub record Emptied (pl ws cs w pl' ws' cs' w' : List ℕ) : Type 0 where
  pub plan : pl' ≡ replicate (length pl) empty
  pub words : ws' ≡ replicate (length ws) empty
  pub counts : cs' ≡ replicate (length cs) 0
  pub work : w' ≡ replicate (length w) 0

-- empty areas of exactly their counted sizes
pub record Blank (K : ℕ) (pl ws cs : List ℕ) : Type 0 where
  pub plan_size : length pl ≡ rooms K (length pl) * stage_size K
  pub words_size : length ws ≡ word_limit K
  pub counts_size : length cs ≡ rooms K (length pl)
  pub plan : pl ≡ replicate (length pl) empty
  pub words : ws ≡ replicate (length ws) empty
  pub counts : cs ≡ replicate (length cs) 0

pub record TryAt (K : ℕ) (gates given records pl ws cs w : List ℕ) : Type 0 where
  pub at : PlaceAt K gates given records pl ws cs w
  pub plan : pl ≡ replicate (length pl) empty
  pub words : ws ≡ replicate (length ws) empty
  pub counts : cs ≡ replicate (length cs) 0
  pub work : w ≡ replicate (length w) 0

-- some stages in areas of these lengths
pub record Filled (L W R : ℕ) (ss : List rules.Stage) (pl ws cs : List ℕ) : Type 0 where
  pub plan : pl ≡ padded L empty (rules.cells_of ss)
  pub words : ws ≡ padded W empty (rules.words_of ss)
  pub counts : cs ≡ padded R 0 (rules.counts_of ss)

-- a is the answer b; a whole plan stands in the areas
pub record Tried (b : rules.Answer) (pl ws cs w : List ℕ) (a : Result Built Refused) (pl' ws' cs' w' : List ℕ) : Type 0 where
  pub kept : Kept pl ws cs w pl' ws' cs' w'
  pub reply : told a ≡ rules.reply b
  pub whole : IfOk a (λ _. Filled (length pl) (length ws) (length cs) (rules.stages_of b) pl' ws' cs')

-- after a refusal everything is empty, after a whole plan the work area
pub record Tidied (whole : Bool) (pl ws cs w pl' ws' cs' w' : List ℕ) : Type 0 where
  pub plan : whole ≡ true → pl' ≡ pl
  pub words : whole ≡ true → ws' ≡ ws
  pub counts : whole ≡ true → cs' ≡ cs
  pub none : whole ≡ false → Emptied pl ws cs w pl' ws' cs' w'
  pub work : w' ≡ replicate (length w) 0

-- stages of pins in the areas, none after a refusal
pub record Laid (b : rules.Answer) (pl ws cs w : List ℕ) (a : Result Built Refused) (pl' ws' cs' w' : List ℕ) : Type 0 where
  pub reply : told a ≡ rules.reply b
  pub filled : Filled (length pl) (length ws) (length cs) (rules.stages_of b) pl' ws' cs'
  pub work : w' ≡ replicate (length w) 0

-- the same, coded with the graph
pub record Placed (g : List Node) (b : rules.Answer) (K : ℕ) (pl ws cs w : List ℕ) (a : Result Built Refused) (pl' ws' cs' w' : List ℕ) : Type 0 where
  pub reply : told a ≡ rules.reply b
  pub filled : Filled (length pl) (length ws) (length cs) (rules.coded_stages K g (rules.stages_of b)) pl' ws' cs'
  pub work : w' ≡ replicate (length w) 0
