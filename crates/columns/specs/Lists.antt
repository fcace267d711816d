-- Lists of pins in columns, with marks or places. Assumes nothing.
use Rattle.std.specs.Prelude.{◌≡◌, Bool, true, false, List, [], ◌∷◌, ℕ, ◌+◌, ◌-◌, ◌*◌, ◌<◌, ◌≤◌, length, get_or, take, drop}
use Rattle.rules.specs.Lists.{mem, insert, swap_out, In, Out, Once}
use Rattle.columns.specs.Fields.{WAITING, PLACE}
use Rattle.columns.specs.Area.{col, Room, Frame}

-- the first n entries of column f
unfoldable pub list : ℕ → ℕ → ℕ → List ℕ → List ℕ
list f m n w = take n (col f m w)

-- entries i to e
unfoldable pub span : ℕ → ℕ → ℕ → ℕ → List ℕ → List ℕ
span f m i e w = drop i (list f m e w)

-- the first n entries are the list xs of pins
pub record Holds (f m n : ℕ) (xs w : List ℕ) : Type 0 where
  pub is : list f m n w ≡ xs
  pub few : n ≤ m
  pub count : length xs ≡ n
  pub pins : (i : ℕ) → i < n → get_or xs i 0 < m

abbrev pub bit : Bool → ℕ
bit true = 1
bit false = 0

-- column g is 1 at the pins of xs, else 0
pub record Marks (g m : ℕ) (xs w : List ℕ) : Type 0 where
  pub mark : (p : ℕ) → p < m → get_or w (g * m + p) 0 ≡ bit (mem p xs)

-- column g is 0 throughout
pub record Clear (g m : ℕ) (w : List ℕ) : Type 0 where
  pub zero : (p : ℕ) → p < m → get_or w (g * m + p) 0 ≡ 0

-- a list of pins in column f, each once, and marked in column g
pub record Marked (f g m n : ℕ) (xs w : List ℕ) : Type 0 where
  pub held : Holds f m n xs w
  pub once : Once xs
  pub marks : Marks g m xs w

-- the same with places for marks: one more than the pin's place in the list, 0 if it is not there
pub record Placed (f g m n : ℕ) (xs w : List ℕ) : Type 0 where
  pub held : Holds f m n xs w
  pub once : Once xs
  pub place : (i : ℕ) → i < n → get_or w (g * m + get_or xs i 0) 0 ≡ i + 1
  pub none : (p : ℕ) → p < m → Out p xs → get_or w (g * m + p) 0 ≡ 0

-- ---- contracts: xs is the list in the column

-- p may go behind a marked list
pub record EnlistAt (f g m n p : ℕ) (w : List ℕ) : Type 0 where
  pub area : Room m w
  pub pin : p < m
  pub first : f < 16
  pub second : g < 16
  pub apart : f ≡ g → ⊥
  pub now : Marked f g m n (list f m n w) w

pub record Enlisted (f g m n p : ℕ) (w w' : List ℕ) (r : ℕ) : Type 0 where
  pub frame : Frame (f ∷ g ∷ []) m w w'
  pub now : Marked f g m r (insert p (list f m n w)) w'

-- p may wait
pub record WaitAt (m n p : ℕ) (w : List ℕ) : Type 0 where
  pub area : Room m w
  pub pin : p < m
  pub now : Placed WAITING PLACE m n (list WAITING m n w) w

pub record Waits (m n p : ℕ) (w w' : List ℕ) (r : ℕ) : Type 0 where
  pub frame : Frame (WAITING ∷ PLACE ∷ []) m w w'
  pub now : Placed WAITING PLACE m r (insert p (list WAITING m n w)) w'

-- p waits, and may leave
pub record SwapAt (m n p : ℕ) (w : List ℕ) : Type 0 where
  pub area : Room m w
  pub now : Placed WAITING PLACE m n (list WAITING m n w) w
  pub waits : In p (list WAITING m n w)

pub record Swapped (m n p : ℕ) (w w' : List ℕ) (r : ℕ) : Type 0 where
  pub frame : Frame (WAITING ∷ PLACE ∷ []) m w w'
  pub less : r ≡ n - 1
  pub now : Placed WAITING PLACE m r (swap_out p (list WAITING m n w)) w'
