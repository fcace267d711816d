-- Needed pins (rule 6) as the columns give them: what is read of a plan, the list under way, and what is left. Assumes nothing.
use Rattle.std.specs.Prelude.{◌≡◌, Bool, false, not, ◌&&◌, List, [], ◌∷◌, ◌++◌, ℕ, ◌+◌, ◌*◌, ◌<◌, ◌≤◌, eqb, length, get_or, take, drop}
use Rattle.rules.specs.Lists.{mem, keep, insert_all, distinct, gather, In, Sub}
use Rattle.rules.specs.Traversal.{level_at}
use Rattle.rules.specs.Placing.{tree_of}
use Rattle.rules.specs.Inside.Lean.{cells_holding, lacks, lacking, wanted}
use Rattle.columns.specs.Area.{Room, Frame, among}
use Rattle.columns.specs.Fields.{CELLS, NEEDED, STACK, PLACE, MARK}
use Rattle.columns.specs.Lists.{list, span, Holds, Marks, Marked}
use Rattle.stage_walk.specs.Stands.{Context, Begun, Ordered, Levelled, Reads}
use Rattle.stage_needed.specs.declared.Counts.{Counts}

-- which pins wait, their levels, and how many cells hold them
pub record Tells (C : Context) (pl : List ℕ) (m : ℕ) (w : List ℕ) : Type 0 where
  pub area : Room m w
  pub size : length C.X.g ≡ m
  pub waits : (p : ℕ) → p < m → not (eqb (get_or w (PLACE * m + p) 0) 0) ≡ mem p C.X.waiting
  pub levelled : Levelled C m w
  pub cells : (x : ℕ) → x < m → get_or w (CELLS * m + x) 0 ≡ cells_holding C.X.K pl x

-- the list under way, n pins
pub record Needing (C : Context) (pl : List ℕ) (m : ℕ) (w : List ℕ) (n : ℕ) : Type 0 where
  pub tells : Tells C pl m w
  pub now : Marked NEEDED MARK m n (list NEEDED m n w) w

-- pins ys go behind it, each unless it is there
pub record Needs (m : ℕ) (w : List ℕ) (n : ℕ) (w' : List ℕ) (n' : ℕ) (ys : List ℕ) : Type 0 where
  pub frame : Frame (NEEDED ∷ MARK ∷ []) m w w'
  pub now : Marked NEEDED MARK m n' (insert_all ys (list NEEDED m n w)) w'

-- an operand of level 0 that is not placed
abbrev pub missing : Context → List ℕ → ℕ → Bool
missing C pl q = eqb (level_at C.X q) 0 && not (mem q (tree_of C.X pl))

pub record AskAt (C : Context) (pl : List ℕ) (m : ℕ) (w : List ℕ) (n q : ℕ) : Type 0 where
  pub needing : Needing C pl m w n
  pub pin : q < m

pub record ItselfAt (C : Context) (pl : List ℕ) (m : ℕ) (w : List ℕ) (n p l : ℕ) : Type 0 where
  pub needing : Needing C pl m w n
  pub pin : p < m
  pub level : l ≡ level_at C.X p
  pub low : l < 2

pub record NeedAt (C : Context) (pl : List ℕ) (m : ℕ) (gates w : List ℕ) (n p : ℕ) : Type 0 where
  pub needing : Needing C pl m w n
  pub reads : Reads C m gates w
  pub listed : In p C.X.seen

-- what is read of a listed pin to tell whether it lacks anything before anything is placed
pub record LackAt (C : Context) (m : ℕ) (gates w : List ℕ) (p : ℕ) : Type 0 where
  pub reads : Reads C m gates w
  pub levelled : Levelled C m w
  pub waits : (q : ℕ) → q < m → not (eqb (get_or w (PLACE * m + q) 0) 0) ≡ mem q C.X.waiting
  pub listed : In p C.X.seen

-- one more pin may be noted
pub record NotePinAt (C : Context) (pl : List ℕ) (m : ℕ) (gates w : List ℕ) (c : Counts) (p : ℕ) : Type 0 where
  pub need : NeedAt C pl m gates w c.needed p
  pub few : c.noted < m

pub record NotedPin (C : Context) (pl : List ℕ) (m : ℕ) (w : List ℕ) (c : Counts) (p : ℕ) (w' : List ℕ) (c' : Counts) : Type 0 where
  pub frame : Frame (NEEDED ∷ MARK ∷ STACK ∷ []) m w w'
  pub more : c'.noted ≤ c.noted + 1
  pub held : (xs : List ℕ) → Holds STACK m c.noted xs w → Holds STACK m c'.noted (xs ++ keep (lacking C.X) (p ∷ [])) w'
  pub now : Marked NEEDED MARK m c'.needed (insert_all (gather (lacks C.X (tree_of C.X pl)) (keep (lacking C.X) (p ∷ []))) (list NEEDED m c.needed w)) w'

-- the first i pins of the order have been looked at, and those from i on have yet to ask
pub record Noting (C : Context) (pl : List ℕ) (m i : ℕ) (w₀ w : List ℕ) (c : Counts) : Type 0 where
  pub frame : Frame (NEEDED ∷ MARK ∷ STACK ∷ []) m w₀ w
  pub few : c.noted ≤ i
  pub held : Holds STACK m c.noted (keep (lacking C.X) (take i C.X.order)) w
  pub now : Marked NEEDED MARK m c.needed (list NEEDED m c.needed w) w
  pub same : insert_all (gather (lacks C.X (tree_of C.X pl)) (keep (lacking C.X) (drop i C.X.order))) (list NEEDED m c.needed w) ≡ wanted C.X pl

-- the k pins of column f stand for the order: of every plan they make the same pins needed
pub record Asking (C : Context) (m f k : ℕ) (w : List ℕ) : Type 0 where
  pub column : f < 16
  pub apart : among (NEEDED ∷ MARK ∷ []) f ≡ false
  pub held : Holds f m k (list f m k w) w
  pub listed : Sub (list f m k w) C.X.seen
  pub same : (pl : List ℕ) → distinct (gather (lacks C.X (tree_of C.X pl)) (list f m k w)) ≡ wanted C.X pl

-- the noted pins stand for the order, and the needed ones are listed and marked
pub record Surveyed (C : Context) (pl : List ℕ) (m : ℕ) (w w' : List ℕ) (c : Counts) : Type 0 where
  pub frame : Frame (NEEDED ∷ MARK ∷ STACK ∷ []) m w w'
  pub asking : Asking C m STACK c.noted w'
  pub now : Marked NEEDED MARK m c.needed (wanted C.X pl) w'

-- the counts of a plan stand in their column, and no pin is marked
pub record CountAt (C : Context) (pl : List ℕ) (m n f k : ℕ) (gates w : List ℕ) : Type 0 where
  pub begun : Begun C m n gates w
  pub asking : Asking C m f k w
  pub levelled : Levelled C m w
  pub cells : (x : ℕ) → x < m → get_or w (CELLS * m + x) 0 ≡ cells_holding C.X.K pl x
  pub unmarked : Marks MARK m [] w

-- the same over the order itself
pub record NeededAt (C : Context) (pl : List ℕ) (m n k : ℕ) (gates w : List ℕ) : Type 0 where
  pub begun : Begun C m n gates w
  pub ordered : Ordered C m k w
  pub levelled : Levelled C m w
  pub cells : (x : ℕ) → x < m → get_or w (CELLS * m + x) 0 ≡ cells_holding C.X.K pl x
  pub unmarked : Marks MARK m [] w

-- the pins from i on have yet to ask
pub record Collecting (C : Context) (pl : List ℕ) (m f k i : ℕ) (w₀ w : List ℕ) (r : ℕ) : Type 0 where
  pub frame : Frame (NEEDED ∷ MARK ∷ []) m w₀ w
  pub now : Marked NEEDED MARK m r (list NEEDED m r w) w
  pub same : insert_all (gather (lacks C.X (tree_of C.X pl)) (span f m i k w₀)) (list NEEDED m r w) ≡ wanted C.X pl

pub record Collected (C : Context) (pl : List ℕ) (m : ℕ) (w w' : List ℕ) (r : ℕ) : Type 0 where
  pub frame : Frame (NEEDED ∷ MARK ∷ []) m w w'
  pub now : Marked NEEDED MARK m r (wanted C.X pl) w'

pub record UnmarkAt (m r : ℕ) (w : List ℕ) : Type 0 where
  pub area : Room m w
  pub now : Marked NEEDED MARK m r (list NEEDED m r w) w

pub record Unmarked (m : ℕ) (xs w w' : List ℕ) : Type 0 where
  pub frame : Frame (MARK ∷ []) m w w'
  pub marks : Marks MARK m xs w'

-- the contract: the list, each pin once; the marks are as they were
pub record Needed (C : Context) (pl : List ℕ) (m : ℕ) (w w' : List ℕ) (r : ℕ) : Type 0 where
  pub frame : Frame (NEEDED ∷ []) m w w'
  pub list : Holds NEEDED m r (wanted C.X pl) w'

-- with the noted pins beside it, which stand for the order
pub record Noted (C : Context) (pl : List ℕ) (m : ℕ) (w w' : List ℕ) (c : Counts) : Type 0 where
  pub frame : Frame (NEEDED ∷ STACK ∷ []) m w w'
  pub list : Holds NEEDED m c.needed (wanted C.X pl) w'
  pub asking : Asking C m STACK c.noted w'
