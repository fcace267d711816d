-- What the program's functions ask and leave. Assumes nothing.
use Rattle.std.specs.Prelude.{ℕ, ◌≤◌, ◌≡◌, true, List, [], ◌∷◌, ◌++◌, length, set, replicate}
use Rattle.rules.specs.Cells.{is_height, stage_size, row_at}
use Rattle.rules.specs.Traversal.{level_at}
use Rattle.rules.specs.Lists.{In}
use Rattle.stage_walk.specs.Stands.{Context}
use Rattle.stage_tree.specs.Bits.{Standing}

-- a stage and its counts, and a listed pin of level h, whose row begins at w
pub record Trial (C : Context) (m h w n : ℕ) (gates pl u : List ℕ) : Type 0 where
  pub stands : Standing C m h gates pl u
  pub row : w ≡ row_at C.X.K h
  pub low : 1 ≤ h
  pub high : h ≤ C.X.K
  pub listed : In n C.X.seen
  pub level : level_at C.X n ≡ h

-- the very stage and area from before
pub record Same (pl u pl' u' : List ℕ) : Type 0 where
  pub stage : pl' ≡ pl
  pub work : u' ≡ u

-- a stage of height K, and an area for 8 pins
pub record SizedFor (K : ℕ) (pl u : List ℕ) : Type 0 where
  pub height : is_height K ≡ true
  pub stage : length pl ≡ stage_size K
  pub work : length u ≡ 640

-- pins 1 to 4 are leaves, 5 = (2, 4), 6 = (6, 9), 7 = (10, 12)
abbrev pub gates : List ℕ
gates = replicate 10 4294967295 ++ (2 ∷ 4 ∷ 6 ∷ 9 ∷ 10 ∷ 12 ∷ [])

-- an area of n zeros with the example's levels: column 2 of 8 pins
unfoldable pub begun : ℕ → List ℕ
begun n = set (set (set (replicate n 0) 21 1) 22 1) 23 2
