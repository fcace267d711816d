-- Rule 8's classes of the waiting pins, as the columns tell them. Assumes nothing.
use Rattle.std.specs.Prelude.{◌≡◌, Bool, not, ◌&&◌, ◌||◌, List, [], ◌∷◌, ℕ, ◌+◌, ◌*◌, ◌<◌, ◌≤◌, eqb, ltb, get_or, take}
use Rattle.rules.specs.Lists.{keep, is_nil, insert_all}
use Rattle.columns.specs.Fields.{LEVEL, CELLS, PHASE, SPARE, WAITING}
use Rattle.columns.specs.Area.{Room, Frame}
use Rattle.columns.specs.Lists.{list, Holds, Marked}

-- a waiting pin that is not in the tree is needed at level 0 or 1, else untouched
unfoldable pub is_needed : ℕ → List ℕ → ℕ → Bool
is_needed m w p = eqb (get_or w (CELLS * m + p) 0) 0 && not (ltb 1 (get_or w (LEVEL * m + p) 0))

unfoldable pub is_untouched : ℕ → List ℕ → ℕ → Bool
is_untouched m w p = eqb (get_or w (CELLS * m + p) 0) 0 && ltb 1 (get_or w (LEVEL * m + p) 0)

pub record ClassAt (m n p : ℕ) (w : List ℕ) : Type 0 where
  pub area : Room m w
  pub pin : p < m
  pub now : Marked PHASE SPARE m n (list PHASE m n w) w

pub record Classed (m n : ℕ) (t : Bool) (p : ℕ) (w w' : List ℕ) (r : ℕ) (u : Bool) : Type 0 where
  pub frame : Frame (PHASE ∷ SPARE ∷ []) m w w'
  pub now : Marked PHASE SPARE m r (insert_all (keep (is_needed m w) (p ∷ [])) (list PHASE m n w)) w'
  pub untouched : u ≡ (t || is_untouched m w p)

-- before: n pins wait, none is marked
pub record SplitAt (m n : ℕ) (w : List ℕ) : Type 0 where
  pub area : Room m w
  pub waiting : Holds WAITING m n (list WAITING m n w) w
  pub clear : (p : ℕ) → p < m → get_or w (SPARE * m + p) 0 ≡ 0

-- after the first i
pub record Splitting (m n i : ℕ) (w w' : List ℕ) (r : ℕ) (u : Bool) : Type 0 where
  pub upto : i ≤ n
  pub frame : Frame (PHASE ∷ SPARE ∷ []) m w w'
  pub now : Marked PHASE SPARE m r (insert_all (keep (is_needed m w) (take i (list WAITING m n w))) []) w'
  pub untouched : u ≡ not (is_nil (keep (is_untouched m w) (take i (list WAITING m n w))))

pub record Classes (m n : ℕ) (w w' : List ℕ) (r : ℕ) (u : Bool) : Type 0 where
  pub frame : Frame (PHASE ∷ SPARE ∷ []) m w w'
  pub now : Marked PHASE SPARE m r (insert_all (keep (is_needed m w) (list WAITING m n w)) []) w'
  pub untouched : u ≡ not (is_nil (keep (is_untouched m w) (list WAITING m n w)))
