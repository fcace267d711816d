-- How a traversal's marks are taken back. Assumes nothing.
use Rattle.std.specs.Prelude.{◌≡◌, List, [], ◌∷◌, ℕ, ◌+◌, ◌*◌, ◌<◌, ◌≤◌, get_or}
use Rattle.rules.specs.Lists.{In, Out}
use Rattle.columns.specs.Fields.{ORDER, DONE, WAITING, LISTED, PLACE}
use Rattle.columns.specs.Area.{Room, Frame}
use Rattle.columns.specs.Lists.{list, Holds, Marks, Clear, Marked, Placed}

pub record AlongAt (f g m a n : ℕ) (w : List ℕ) : Type 0 where
  pub area : Room m w
  pub from : f < 16
  pub to : g < 16
  pub apart : f ≡ g → ⊥
  pub upto : a ≤ n
  pub held : Holds f m n (list f m n w) w

pub record UnmarkAt (m : ℕ) (given w : List ℕ) : Type 0 where
  pub area : Room m w
  pub pins : (q : ℕ) → In q given → q < m

-- column g alone changed: it is 0 at the pins of xs
pub record Along (g m : ℕ) (xs w w' : List ℕ) : Type 0 where
  pub frame : Frame (g ∷ []) m w w'
  pub zero : (p : ℕ) → p < m → In p xs → get_or w' (g * m + p) 0 ≡ 0
  pub kept : (p : ℕ) → p < m → Out p xs → get_or w' (g * m + p) 0 ≡ get_or w (g * m + p) 0

-- n pins wait and k are listed
pub record Both (m n k : ℕ) (w : List ℕ) : Type 0 where
  pub area : Room m w
  pub waiting : Placed WAITING PLACE m n (list WAITING m n w) w
  pub listed : Marked ORDER LISTED m k (list ORDER m k w) w

pub record BackAt (m n k n' k' : ℕ) (w : List ℕ) : Type 0 where
  pub both : Both m n k w
  pub fewer_wait : n' ≤ n
  pub fewer_listed : k' ≤ k

-- the first ones are left
pub record Back (m n k : ℕ) (w w' : List ℕ) : Type 0 where
  pub frame : Frame (LISTED ∷ PLACE ∷ []) m w w'
  pub waiting : Placed WAITING PLACE m n (list WAITING m n w) w'
  pub listed : Marked ORDER LISTED m k (list ORDER m k w) w'

pub record CloseAt (m n k : ℕ) (given w : List ℕ) : Type 0 where
  pub both : Both m n k w
  pub done : Marks DONE m given w
  pub pins : (q : ℕ) → In q given → q < m

pub record Closed (m : ℕ) (w w' : List ℕ) : Type 0 where
  pub frame : Frame (DONE ∷ LISTED ∷ PLACE ∷ []) m w w'
  pub done : Clear DONE m w'
  pub listed : Clear LISTED m w'
  pub places : Clear PLACE m w'
