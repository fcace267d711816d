-- The counts of a plan in the work area: what changes them, and what stays. Assumes nothing.
use Rattle.std.specs.Prelude.{◌≡◌, ◌≢◌, Bool, List, [], ◌∷◌, ℕ, ◌+◌, ◌*◌, ◌<◌, ◌≤◌, max, ltb, length, get_or}
use Rattle.rules.specs.Lists.{count}
use Rattle.rules.specs.Cells.{filled, row}
use Rattle.rules.specs.Placing.{tree_of}
use Rattle.rules.specs.Inside.Lean.{cells_holding}
use Rattle.columns.specs.Area.{Room, Frame}
use Rattle.columns.specs.Fields.{CELLS, TAIL, ONES, PINS, FILLED}
use Rattle.stage_walk.specs.Stands.{Context}

-- only the counts that are kept cell by cell changed: cells by pin, and in the tail the filled cells of level 1 and the pins in the tree
pub record Inner (m : ℕ) (u u' : List ℕ) : Type 0 where
  pub frame : Frame (CELLS ∷ TAIL ∷ []) m u u'
  pub rest : (j : ℕ) → 16 * m ≤ j → j ≢ 16 * m + ONES → j ≢ 16 * m + PINS → get_or u' j 0 ≡ get_or u j 0

-- only these and the filled cells of all levels changed, which are added up pin by pin
pub record Kept (m : ℕ) (u u' : List ℕ) : Type 0 where
  pub frame : Frame (CELLS ∷ TAIL ∷ []) m u u'
  pub rest : (j : ℕ) → 16 * m ≤ j → j ≢ 16 * m + ONES → j ≢ 16 * m + PINS → j ≢ 16 * m + FILLED → get_or u' j 0 ≡ get_or u j 0

-- the counts of a plan that are kept cell by cell
pub record Counts (C : Context) (m : ℕ) (pl w : List ℕ) : Type 0 where
  pub cells : (x : ℕ) → x < m → get_or w (CELLS * m + x) 0 ≡ cells_holding C.X.K pl x
  pub ones : get_or w (16 * m + ONES) 0 ≡ count filled (row C.X.K 1 pl)
  pub pins : get_or w (16 * m + PINS) 0 ≡ length (tree_of C.X pl)

-- counts never overflow: a stage has at most 2^13 cells above level 0
pub record Few (m : ℕ) (u : List ℕ) : Type 0 where
  pub cells : (x : ℕ) → x < m → get_or u (CELLS * m + x) 0 ≤ 8192
  pub ones : get_or u (16 * m + ONES) 0 ≤ 8192
  pub pins : get_or u (16 * m + PINS) 0 ≤ 8192

-- pin n can be counted once more, once less
pub record CountAt (m n : ℕ) (u : List ℕ) : Type 0 where
  pub area : Room m u
  pub pin : n < m
  pub cells : get_or u (CELLS * m + n) 0 < 4294967295
  pub pins : get_or u (16 * m + PINS) 0 < 4294967295

pub record UncountAt (m n : ℕ) (u : List ℕ) : Type 0 where
  pub area : Room m u
  pub pin : n < m
  pub cells : 0 < get_or u (CELLS * m + n) 0
  pub pins : 0 < get_or u (16 * m + PINS) 0

-- in u' one more cell holds pin n than in u
pub record OneMore (m n : ℕ) (u u' : List ℕ) : Type 0 where
  pub len : length u' ≡ length u
  pub at : get_or u' (CELLS * m + n) 0 ≡ get_or u (CELLS * m + n) 0 + 1
  pub old : get_or u (CELLS * m + n) 0 ≢ 0 → get_or u' (16 * m + PINS) 0 ≡ get_or u (16 * m + PINS) 0
  pub new : get_or u (CELLS * m + n) 0 ≡ 0 → get_or u' (16 * m + PINS) 0 ≡ get_or u (16 * m + PINS) 0 + 1
  pub other : (j : ℕ) → j ≢ CELLS * m + n → j ≢ 16 * m + PINS → get_or u' j 0 ≡ get_or u j 0

-- rule 7 by the counts: `half` cells at level 1, b needed pins
pub record RoomAt (m b : ℕ) (u : List ℕ) : Type 0 where
  pub area : Room m u
  pub few : b ≤ m

unfoldable pub room_in : ℕ → ℕ → ℕ → List ℕ → Bool
room_in m half b u = ltb (b + max (get_or u (16 * m + ONES) 0) (get_or u (16 * m + PINS) 0)) half
