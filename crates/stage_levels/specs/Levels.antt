-- What levels and reverse levels start from and leave. Assumes nothing.
use Rattle.std.specs.Prelude.{◌≡◌, List, [], ◌∷◌, map, reverse, ℕ, ◌+◌, ◌-◌, ◌*◌, ◌<◌, ◌≤◌, get_or, take}
use Rattle.rules.specs.Graph.{below}
use Rattle.rules.specs.Traversal.{thread, levels, level_at, greatest, lift}
use Rattle.rules.specs.Lists.{In}
use Rattle.columns.specs.Area.{Room, Frame, col}
use Rattle.columns.specs.Fields.{LEVEL, WAITING, REVERSE}
use Rattle.columns.specs.Lists.{list, Holds, Clear}
use Rattle.stage_walk.specs.Stands.{Context, Begun, Ordered, Reads}

-- the graph and the order
pub record Along (C : Context) (m k : ℕ) (gates w : List ℕ) : Type 0 where
  pub reads : Reads C m gates w
  pub ordered : Ordered C m k w

-- column f alone becomes c
pub record Becomes (f m : ℕ) (w w' c : List ℕ) : Type 0 where
  pub frame : Frame (f ∷ []) m w w'
  pub is : col f m w' ≡ c

-- ---- 2. levels

-- pin p, with levels of the pins followed from it
pub record LevelAt (C : Context) (m p : ℕ) (gates w : List ℕ) : Type 0 where
  pub reads : Reads C m gates w
  pub pin : p < m
  pub low : (x : ℕ) → In x (below C.X.g C.X.done p) → get_or w (LEVEL * m + x) 0 < m

-- no pin has a level yet
pub record LevelsAt (C : Context) (m k : ℕ) (gates w : List ℕ) : Type 0 where
  pub along : Along C m k gates w
  pub clear : Clear LEVEL m w

-- the first i pins have their levels
pub record Risen (C : Context) (m i : ℕ) (w w' : List ℕ) (top : ℕ) : Type 0 where
  pub column : Becomes LEVEL m w w' (levels C.X.g C.X.done (reverse (take i C.X.order)))
  pub most : top ≡ greatest (map (level_at C.X) (take i C.X.order)) 0

-- the contract: levels, 0 at pins that are not listed, and the greatest
pub record Levels (C : Context) (m : ℕ) (w w' : List ℕ) (top : ℕ) : Type 0 where
  pub column : Becomes LEVEL m w w' C.X.lv
  pub most : top ≡ greatest (map (level_at C.X) C.X.order) 0

-- ---- 3. reverse levels

pub record WaitsAt (m n : ℕ) (w : List ℕ) : Type 0 where
  pub area : Room m w
  pub waiting : Holds WAITING m n (list WAITING m n w) w

pub record LiftAt (C : Context) (m p : ℕ) (gates w : List ℕ) : Type 0 where
  pub reads : Reads C m gates w
  pub pin : p < m
  pub low : get_or w (REVERSE * m + p) 0 ≤ 65536

pub record LowerAt (C : Context) (m k : ℕ) (gates w : List ℕ) : Type 0 where
  pub along : Along C m k gates w
  pub low : (q : ℕ) → get_or (col REVERSE m w) q 0 ≤ 1

-- the pins from i on have handed theirs down
pub record Lowered (C : Context) (m k i : ℕ) (w w' : List ℕ) : Type 0 where
  pub frame : Frame (REVERSE ∷ []) m w w'
  pub low : (q : ℕ) → get_or (col REVERSE m w') q 0 ≤ k - i + 1
  pub same : thread (lift C.X.g C.X.done) (reverse (take i C.X.order)) (col REVERSE m w') ≡ thread (lift C.X.g C.X.done) C.X.seen (col REVERSE m w)

-- no pin has a reverse level yet
pub record ReverseAt (C : Context) (m n k : ℕ) (gates w : List ℕ) : Type 0 where
  pub begun : Begun C m n gates w
  pub ordered : Ordered C m k w
  pub clear : Clear REVERSE m w
