-- Rule 10 over the columns and the lent words. Assumes nothing.
use Rattle.std.specs.Prelude.{◌≡◌, Bool, true, false, not, ◌&&◌, List, [], ◌∷◌, ◌⊎◌, ℕ, zero, suc, ◌+◌, ◌-◌, ◌*◌, ◌/◌, ◌^◌, ◌<◌, ◌≤◌, eqb, length, get_or, take, drop}
use Rattle.rules.specs.Lists.{keep, insert, laid_at, In, Out, Once}
use Rattle.rules.specs.Cells.{empty, filled, row_at, row}
use Rattle.columns.specs.Fields.{WAITING, PLACE, MARK, SPARE, TAIL}
use Rattle.columns.specs.Area.{Room, Frame}
use Rattle.columns.specs.Lists.{list}

-- contracts speak of some, and of every, list of words collected so far that the tail's places fit

-- pin c waits, and is neither realised nor needed
unfoldable pub is_end : ℕ → List ℕ → ℕ → Bool
is_end m w c = not (eqb (get_or w (PLACE * m + c) 0) 0) && (eqb (get_or w (MARK * m + c) 0) 0 && eqb (get_or w (SPARE * m + c) 0) 0)

-- n words ws are collected: number j of the tail is one more than word j's place, 0 for none
pub record Spots (m n : ℕ) (ws w : List ℕ) : Type 0 where
  pub area : Room m w
  pub count : length ws ≡ n
  pub once : Once ws
  pub low : (j : ℕ) → In j ws → j < 256
  pub spot : (i : ℕ) → i < n → get_or w (16 * m + get_or ws i 0) 0 ≡ i + 1
  pub none : (j : ℕ) → j < 256 → Out j ws → get_or w (16 * m + j) 0 ≡ 0

-- only the tail's first 256 numbers changed
pub record Kept (m : ℕ) (w w' : List ℕ) : Type 0 where
  pub frame : Frame (TAIL ∷ []) m w w'
  pub past : (j : ℕ) → 256 ≤ j → get_or w' (16 * m + j) 0 ≡ get_or w (16 * m + j) 0

pub record WordAt (m n j : ℕ) (ws w : List ℕ) : Type 0 where
  pub spots : Spots m n ws w
  pub word : j < 256

pub record Worded (m j : ℕ) (ws w w' : List ℕ) (r : ℕ) : Type 0 where
  pub kept : Kept m w w'
  pub spots : Spots m r (insert j ws) w'

-- the endpoints that are looked for
unfoldable pub ends : ℕ → ℕ → List ℕ → List ℕ
ends m n w = keep (is_end m w) (list WAITING m n w)

-- every filled cell holds a pin
pub record Pins (m : ℕ) (pl : List ℕ) : Type 0 where
  pub pin : (p : ℕ) → p < length pl → (get_or pl p 0 ≡ 4294967295 → ⊥) → get_or pl p 0 < m

pub record CellAt (m n p : ℕ) (ws pl w : List ℕ) : Type 0 where
  pub spots : Spots m n ws w
  pub pins : Pins m pl
  pub cell : p < length pl
  pub high : p < 8192

-- ps are the endpoints that are looked for
unfoldable pub words_at : (ℕ → Bool) → ℕ → List ℕ → List ℕ → List ℕ
words_at f p [] ws = ws
words_at f p (c ∷ cs) ws = elim (filled c && f c) [ true ↦ words_at f (suc p) cs (insert (p / 32) ws) | false ↦ words_at f (suc p) cs ws ]

pub record Celled (m p : ℕ) (ws pl w w' : List ℕ) (r : ℕ) : Type 0 where
  pub kept : Kept m w w'
  pub spots : Spots m r (words_at (is_end m w) p (get_or pl p empty ∷ []) ws) w'

pub record RowAt (m n a e : ℕ) (ws pl w : List ℕ) : Type 0 where
  pub spots : Spots m n ws w
  pub pins : Pins m pl
  pub from : a ≤ e
  pub cells : e ≤ length pl
  pub high : e ≤ 8192

unfoldable pub part : ℕ → ℕ → List ℕ → List ℕ
part a e pl = take (e - a) (drop a pl)

pub record Rowed (m a e : ℕ) (ws pl w w' : List ℕ) (r : ℕ) : Type 0 where
  pub kept : Kept m w w'
  pub spots : Spots m r (words_at (is_end m w) a (part a e pl) ws) w'

-- ---- all levels

pub record UpAt (m K half : ℕ) (pl w : List ℕ) : Type 0 where
  pub area : Room m w
  pub pins : Pins m pl
  pub clear : (j : ℕ) → j < 256 → get_or w (16 * m + j) 0 ≡ 0
  pub size : length pl ≡ 2 ^ (K + 1)
  pub low : 6 ≤ K
  pub high : K ≤ 13
  pub row : half ≡ row_at K 1

-- n levels from h upward
unfoldable pub words_from : (ℕ → Bool) → ℕ → ℕ → ℕ → List ℕ → List ℕ → List ℕ
words_from f K zero h pl ws = ws
words_from f K (suc n) h pl ws = words_from f K n (suc h) pl (words_at f (row_at K h) (row K h pl) ws)

-- levels 1 to h - 1 are done
pub record Rising (m K h wd : ℕ) (pl w : List ℕ) (w' : List ℕ) (n : ℕ) : Type 0 where
  pub from : 1 ≤ h
  pub upto : h ≤ K + 1
  pub wide : h ≤ K → wd ≡ row_at K h
  pub kept : Kept m w w'
  pub spots : Spots m n (words_from (is_end m w) K (h - 1) 1 pl []) w'

pub record Upped (m K : ℕ) (pl w w' : List ℕ) (r : ℕ) : Type 0 where
  pub kept : Kept m w w'
  pub spots : Spots m r (words_from (is_end m w) K K 1 pl []) w'

-- ---- writing

pub record OneAt (m at j : ℕ) (words w : List ℕ) : Type 0 where
  pub area : Room m w
  pub word : j < 256
  pub fits : at + get_or w (16 * m + j) 0 ≤ length words
  pub small : length words < 2 ^ 63

pub record One (m at j : ℕ) (words w words' w' : List ℕ) : Type 0 where
  pub kept : Kept m w w'
  pub gone : get_or w' (16 * m + j) 0 ≡ 0
  pub other : (i : ℕ) → (i ≡ j → ⊥) → get_or w' (16 * m + i) 0 ≡ get_or w (16 * m + i) 0
  pub len : length words' ≡ length words
  pub here : 0 < get_or w (16 * m + j) 0 → get_or words' (at + get_or w (16 * m + j) 0 - 1) 0 ≡ j
  pub there : (i : ℕ) → (0 < get_or w (16 * m + j) 0 → i ≡ at + get_or w (16 * m + j) 0 - 1 → ⊥) → get_or words' i 0 ≡ get_or words i 0

pub record WriteAt (m at n : ℕ) (ws words w : List ℕ) : Type 0 where
  pub spots : Spots m n ws w
  pub fits : at + n ≤ length words
  pub small : length words < 2 ^ 63

-- the words below j are written
pub record Writing (m at j : ℕ) (ws words w words' w' : List ℕ) : Type 0 where
  pub upto : j ≤ 256
  pub kept : Kept m w w'
  pub gone : (i : ℕ) → i < j → get_or w' (16 * m + i) 0 ≡ 0
  pub left : (i : ℕ) → j ≤ i → get_or w' (16 * m + i) 0 ≡ get_or w (16 * m + i) 0
  pub len : length words' ≡ length words
  pub here : (i : ℕ) → i < length ws → get_or ws i 0 < j → get_or words' (at + i) 0 ≡ get_or ws i 0
  pub there : (i : ℕ) → (i < at) ⊎ (at + length ws ≤ i) → get_or words' i 0 ≡ get_or words i 0

pub record Written (m at : ℕ) (ws words w words' w' : List ℕ) : Type 0 where
  pub kept : Kept m w w'
  pub clear : (i : ℕ) → i < 256 → get_or w' (16 * m + i) 0 ≡ 0
  pub stands : words' ≡ laid_at at ws words
