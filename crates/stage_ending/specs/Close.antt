-- Rule 11 over the columns. Assumes nothing.
use Rattle.std.specs.Prelude.{◌≡◌, Bool, true, false, not, ◌&&◌, List, [], ◌∷◌, ℕ, ◌+◌, ◌*◌, ◌<◌, ◌≤◌, eqb, get_or, take}
use Rattle.rules.specs.Lists.{mem, keep, insert_all, swap_out_all, In, Out}
use Rattle.columns.specs.Fields.{ORDER, DONE, LEVEL, WAITING, CELLS, REVERSE, LISTED, STACK, PLACE, MARK, SPARE, TAIL}
use Rattle.columns.specs.Area.{Room, Frame}
use Rattle.columns.specs.Lists.{list, Holds, Marked, Placed, Clear}

abbrev pub either : Bool → ℕ → ℕ → ℕ
either true a b = a
either false a b = b

-- ---- the pins above level 0 are realised, and what the stage noted of a pin goes

pub record PinAt (m p : ℕ) (w : List ℕ) : Type 0 where
  pub area : Room m w
  pub pin : p < m

-- column f is 0 but at the pins xs
pub record Within (f m : ℕ) (xs w : List ℕ) : Type 0 where
  pub zero : (p : ℕ) → p < m → Out p xs → get_or w (f * m + p) 0 ≡ 0

-- column f becomes 0 at the pins xs
pub record Zeroed (f m : ℕ) (xs w w' : List ℕ) : Type 0 where
  pub field : (p : ℕ) → p < m → get_or w' (f * m + p) 0 ≡ either (mem p xs) 0 (get_or w (f * m + p) 0)

-- the count and the marks of the pins xs
pub record Wiped (m : ℕ) (xs w w' : List ℕ) : Type 0 where
  pub frame : Frame (CELLS ∷ MARK ∷ SPARE ∷ []) m w w'
  pub cells : Zeroed CELLS m xs w w'
  pub marks : Zeroed MARK m xs w w'
  pub spare : Zeroed SPARE m xs w w'

pub record Retired (m : ℕ) (xs w w' : List ℕ) : Type 0 where
  pub frame : Frame (DONE ∷ CELLS ∷ MARK ∷ SPARE ∷ []) m w w'
  pub done : (p : ℕ) → p < m → get_or w' (DONE * m + p) 0 ≡ either (mem p xs && not (eqb (get_or w (CELLS * m + p) 0) 0)) 1 (get_or w (DONE * m + p) 0)
  pub cells : Zeroed CELLS m xs w w'
  pub marks : Zeroed MARK m xs w w'
  pub spare : Zeroed SPARE m xs w w'

-- what the walks wrote at the pins xs goes
pub record Gone (m : ℕ) (xs w w' : List ℕ) : Type 0 where
  pub listed : Zeroed LISTED m xs w w'
  pub levels : Zeroed LEVEL m xs w w'
  pub reverse : Zeroed REVERSE m xs w w'

pub record Unlisted (m : ℕ) (xs w w' : List ℕ) : Type 0 where
  pub frame : Frame (LEVEL ∷ REVERSE ∷ LISTED ∷ []) m w w'
  pub gone : Gone m xs w w'

-- the pins xs retired and unlisted
pub record Swept (m : ℕ) (xs w w' : List ℕ) : Type 0 where
  pub frame : Frame (DONE ∷ LEVEL ∷ CELLS ∷ REVERSE ∷ LISTED ∷ MARK ∷ SPARE ∷ []) m w w'
  pub done : (p : ℕ) → p < m → get_or w' (DONE * m + p) 0 ≡ either (mem p xs && not (eqb (get_or w (CELLS * m + p) 0) 0)) 1 (get_or w (DONE * m + p) 0)
  pub cells : Zeroed CELLS m xs w w'
  pub marks : Zeroed MARK m xs w w'
  pub spare : Zeroed SPARE m xs w w'
  pub gone : Gone m xs w w'

pub record RetireAt (m k : ℕ) (w : List ℕ) : Type 0 where
  pub area : Room m w
  pub order : Holds ORDER m k (list ORDER m k w) w

-- ---- realised endpoints leave

pub record LeaveAt (m n r : ℕ) (w : List ℕ) : Type 0 where
  pub area : Room m w
  pub real : Marked STACK MARK m r (list STACK m r w) w
  pub waiting : Placed WAITING PLACE m n (list WAITING m n w) w
  pub waits : (x : ℕ) → In x (list STACK m r w) → In x (list WAITING m n w)

pub record Leaving (m n r i : ℕ) (w w' : List ℕ) (e : ℕ) : Type 0 where
  pub upto : i ≤ r
  pub frame : Frame (WAITING ∷ PLACE ∷ []) m w w'
  pub now : Placed WAITING PLACE m e (swap_out_all (take i (list STACK m r w)) (list WAITING m n w)) w'

pub record Left (m n r : ℕ) (w w' : List ℕ) (e : ℕ) : Type 0 where
  pub frame : Frame (WAITING ∷ PLACE ∷ []) m w w'
  pub now : Placed WAITING PLACE m e (swap_out_all (list STACK m r w) (list WAITING m n w)) w'

-- ---- tree endpoints are realised

unfoldable pub is_tree : ℕ → List ℕ → ℕ → Bool
is_tree m w p = eqb (get_or w (SPARE * m + p) 0) 0

pub record OneAt (m r p : ℕ) (w : List ℕ) : Type 0 where
  pub area : Room m w
  pub pin : p < m
  pub real : Marked STACK MARK m r (list STACK m r w) w

pub record One (m r p : ℕ) (w w' : List ℕ) (e : ℕ) : Type 0 where
  pub frame : Frame (STACK ∷ MARK ∷ []) m w w'
  pub real : Marked STACK MARK m e (insert_all (keep (is_tree m w) (p ∷ [])) (list STACK m r w)) w'

pub record RealiseAt (m n r : ℕ) (w : List ℕ) : Type 0 where
  pub area : Room m w
  pub real : Marked STACK MARK m r (list STACK m r w) w
  pub waiting : Holds WAITING m n (list WAITING m n w) w

pub record Realising (m n r i : ℕ) (w w' : List ℕ) (e : ℕ) : Type 0 where
  pub upto : i ≤ n
  pub frame : Frame (STACK ∷ MARK ∷ []) m w w'
  pub real : Marked STACK MARK m e (insert_all (keep (is_tree m w) (take i (list WAITING m n w))) (list STACK m r w)) w'

pub record Realised (m n r : ℕ) (w w' : List ℕ) (e : ℕ) : Type 0 where
  pub frame : Frame (STACK ∷ MARK ∷ []) m w w'
  pub real : Marked STACK MARK m e (insert_all (keep (is_tree m w) (list WAITING m n w)) (list STACK m r w)) w'

-- ---- all of it

pub record CloseAt (m o n r : ℕ) (w : List ℕ) : Type 0 where
  pub area : Room m w
  pub order : Holds ORDER m o (list ORDER m o w) w
  pub waiting : Placed WAITING PLACE m n (list WAITING m n w) w
  pub real : Marked STACK MARK m r (list STACK m r w) w
  pub waits : (x : ℕ) → In x (list STACK m r w) → In x (list WAITING m n w)
  pub cells : Within CELLS m (list ORDER m o w) w
  pub marks : Within MARK m (list ORDER m o w) w
  pub spare : Within SPARE m (list ORDER m o w) w

pub record Closed (m o n r : ℕ) (w w' : List ℕ) (e : ℕ) : Type 0 where
  pub frame : Frame (DONE ∷ LEVEL ∷ WAITING ∷ CELLS ∷ REVERSE ∷ LISTED ∷ PLACE ∷ MARK ∷ SPARE ∷ TAIL ∷ []) m w w'
  pub past : (j : ℕ) → 259 ≤ j → get_or w' (16 * m + j) 0 ≡ get_or w (16 * m + j) 0
  pub done : (p : ℕ) → p < m → get_or w' (DONE * m + p) 0 ≡ either (mem p (list ORDER m o w) && not (eqb (get_or w (CELLS * m + p) 0) 0)) 1 (get_or w (DONE * m + p) 0)
  pub waiting : Placed WAITING PLACE m e (swap_out_all (list STACK m r w) (list WAITING m n w)) w'
  pub cells : Clear CELLS m w'
  pub marks : Clear MARK m w'
  pub spare : Clear SPARE m w'
  pub gone : Gone m (list ORDER m o w) w w'
  pub tail : (j : ℕ) → j < 259 → get_or w' (16 * m + j) 0 ≡ 0
