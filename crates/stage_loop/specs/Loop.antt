-- Rules 2 to 7 over the columns: what the loop's functions ask and leave. pl is the stage, w the work area. Assumes nothing.
use Rattle.std.specs.Prelude.{Option, Some, None, Result, IfOk, IfErr, MatchResult, ◌≡◌, ◌≢◌, List, [], ◌∷◌, ℕ, suc, ◌+◌, ◌*◌, ◌<◌, ◌≤◌, length, get_or}
use Rattle.rules.specs.Cells.{level_one_size, row_at}
use Rattle.rules.specs.Placing.{placed}
use Rattle.rules.specs.Inside.Lean.{wanted, recount, lean, onward}
use Rattle.rules.specs.Inside.Plans.{Fair, Placeable, Going}
use Rattle.columns.specs.Area.{Frame}
use Rattle.columns.specs.Fields.{CELLS, NEEDED, STACK, MARK, TAIL, ONES, PINS, FILLED}
use Rattle.columns.specs.Lists.{Marks}
use Rattle.stage_walk.specs.Stands.{Context, Begun, Levelled, Listed, Tally, ranked}
use Rattle.stage_needed.specs.Needed.{Asking}
use Rattle.stage_notes.specs.Notes.{NOTES, NOTED, notes, note_in, weighed, lean_notes, onward_notes}
use Rattle.stage_tree.specs.Search.{Cursor}
use Rattle.stage_loop.specs.Bounds.{as_found}
use Rattle.stage_loop.specs.declared.lean.NoRoom.{NoRoom}

-- only the counts and the needed pins changed
pub record Kept (m : ℕ) (w w' : List ℕ) : Type 0 where
  pub frame : Frame (CELLS ∷ NEEDED ∷ TAIL ∷ []) m w w'
  pub rest : (j : ℕ) → 16 * m ≤ j → j ≢ 16 * m + ONES → j ≢ 16 * m + PINS → j ≢ 16 * m + FILLED → get_or w' j 0 ≡ get_or w j 0

-- or the notes of pins taken back too
pub record Moved (m : ℕ) (w w' : List ℕ) : Type 0 where
  pub frame : Frame (CELLS ∷ NEEDED ∷ TAIL ∷ []) m w w'
  pub low : (j : ℕ) → j < ONES → get_or w' (16 * m + j) 0 ≡ get_or w (16 * m + j) 0
  pub past : (j : ℕ) → NOTES + NOTED ≤ j → get_or w' (16 * m + j) 0 ≡ get_or w (16 * m + j) 0

-- or the pins noted for rule 6 too
pub record Changed (m : ℕ) (w w' : List ℕ) : Type 0 where
  pub frame : Frame (CELLS ∷ NEEDED ∷ STACK ∷ TAIL ∷ []) m w w'
  pub low : (j : ℕ) → j < ONES → get_or w' (16 * m + j) 0 ≡ get_or w (16 * m + j) 0
  pub past : (j : ℕ) → NOTES + NOTED ≤ j → get_or w' (16 * m + j) 0 ≡ get_or w (16 * m + j) 0

-- what the loop reads: the k noted pins stand for the order
pub record NotedSet (C : Context) (m n k : ℕ) (gates w : List ℕ) : Type 0 where
  pub begun : Begun C m n gates w
  pub levelled : Levelled C m w
  pub listed : Listed C m w
  pub asking : Asking C m STACK k w

-- a plan with its counts while level h is filled; n pins wait, k are noted, none is marked
pub record Plan (C : Context) (m n k h : ℕ) (gates pl w : List ℕ) : Type 0 where
  pub set : NotedSet C m n k gates w
  pub clear : Marks MARK m [] w
  pub tally : Tally C m pl w
  pub fair : Fair C.X h pl

-- a row's start
pub record Wide (C : Context) (h wd : ℕ) : Type 0 where
  pub low : 1 ≤ h
  pub high : h ≤ C.X.K
  pub row : wd ≡ row_at C.X.K h

-- ---- the needed pins

pub record Counted (C : Context) (m : ℕ) (pl w w' : List ℕ) (c : ℕ) : Type 0 where
  pub count : c ≡ length (wanted C.X pl)
  pub few : c ≤ m
  pub kept : Kept m w w'
  pub tally : Tally C m pl w'

-- ---- rule 7: a bound that has room, or how many pins are needed for which there is none

pub record SettleAt (C : Context) (m n k half most : ℕ) (gates pl w : List ℕ) : Type 0 where
  pub set : NotedSet C m n k gates w
  pub clear : Marks MARK m [] w
  pub tally : Tally C m pl w
  pub cap : half ≡ level_one_size C.X.K
  pub few : most ≤ m

pub record Settled (C : Context) (m most : ℕ) (pl w w' : List ℕ) (r : Result ℕ NoRoom) : Type 0 where
  pub is : as_found r ≡ recount C.X most pl
  pub count : IfErr r (λ c. (c.0 ≡ length (wanted C.X pl)) × (c.0 ≤ m))
  pub few : IfOk r (λ b. b ≤ m)
  pub kept : Kept m w w'
  pub tally : Tally C m pl w'

-- ---- one try

pub record TryAt (C : Context) (m n k h wd half p q most : ℕ) (gates pl w : List ℕ) : Type 0 where
  pub plan : Plan C m n k h gates pl w
  pub wide : Wide C h wd
  pub able : Placeable C.X pl h p q
  pub cap : half ≡ level_one_size C.X.K
  pub few : most ≤ m

pub record Tried (C : Context) (m h p q most : ℕ) (pl w pl' w' : List ℕ) (r : Result ℕ NoRoom) : Type 0 where
  pub is : as_found r ≡ recount C.X most (placed C.X h p q pl)
  pub few : IfOk r (λ b. b ≤ m)
  pub plan : MatchResult r (λ b. pl' ≡ placed C.X h p q pl) (λ c. pl' ≡ pl)
  pub told : MatchResult r (λ b. notes m w' ≡ notes m w) (λ c. notes m w' ≡ note_in h (weighed C.X q (placed C.X h p q pl) ∷ []) (notes m w))
  pub kept : Moved m w w'
  pub tally : Tally C m pl' w'

-- ---- one turn at level l + 1, with the candidates at i to e left

pub record At (C : Context) (m n k l wd half : ℕ) (gates pl w : List ℕ) (i e b : ℕ) : Type 0 where
  pub set : NotedSet C m n k gates w
  pub clear : Marks MARK m [] w
  pub tally : Tally C m pl w
  pub going : Going C.X (suc l) (ranked m w i e) b pl
  pub wide : Wide C (suc l) wd
  pub cap : half ≡ level_one_size C.X.K
  pub before : i ≤ e
  pub inside : e ≤ m
  pub few : b ≤ m

-- the next turn's search starts at `from`
pub record Next (C : Context) (m n k l wd half : ℕ) (gates pl w : List ℕ) (i e b from : ℕ) : Type 0 where
  pub at : At C m n k l wd half gates pl w i e b
  pub more : i < e
  pub cursor : Cursor C.X (suc l) wd from pl

pub record Ended (C : Context) (m l : ℕ) (pl w : List ℕ) (i e b : ℕ) (pl' w' : List ℕ) (b' : ℕ) : Type 0 where
  pub same : onward C.X l (ranked m w i e) b pl ≡ lean C.X l b' pl'
  pub told : onward_notes C.X l (ranked m w i e) b pl (notes m w) ≡ lean_notes C.X l b' pl' (notes m w')
  pub fair : Fair C.X l pl'
  pub enough : length (wanted C.X pl') ≤ b'
  pub few : b' ≤ m
  pub kept : Moved m w w'
  pub tally : Tally C m pl' w'

pub record Gone (C : Context) (m n k l wd half : ℕ) (gates pl w : List ℕ) (i e b : ℕ) (pl' w' : List ℕ) (j b' from : ℕ) : Type 0 where
  pub same : onward C.X l (ranked m w i e) b pl ≡ onward C.X l (ranked m w' j e) b' pl'
  pub told : onward_notes C.X l (ranked m w i e) b pl (notes m w) ≡ onward_notes C.X l (ranked m w' j e) b' pl' (notes m w')
  pub kept : Moved m w w'
  pub at : At C m n k l wd half gates pl' w' j e b'
  pub cursor : Cursor C.X (suc l) wd from pl'

abbrev pub Turned : Context → (m n k l wd half : ℕ) → (gates pl w : List ℕ) → (i e b : ℕ) → (pl' w' : List ℕ) → Option (ℕ × ℕ) → Type 0
Turned C m n k l wd half gates pl w i e b pl' w' None = Ended C m l pl w i e b pl' w' b
Turned C m n k l wd half gates pl w i e b pl' w' (Some s) = Gone C m n k l wd half gates pl w i e b pl' w' (i + 1) s.0 s.1

-- ---- all levels from l + 1 down

pub record LeanAt (C : Context) (m n k l wd half : ℕ) (gates pl w : List ℕ) (b : ℕ) : Type 0 where
  pub plan : Plan C m n k (suc l) gates pl w
  pub wide : Wide C (suc l) wd
  pub cap : half ≡ level_one_size C.X.K
  pub enough : length (wanted C.X pl) ≤ b
  pub few : b ≤ m
  pub deep : suc l < m

-- where the loop over levels stands
pub record Leaning (C : Context) (m n k top wd half : ℕ) (gates pl w : List ℕ) (most l : ℕ) (pl' w' : List ℕ) (b : ℕ) : Type 0 where
  pub same : lean C.X (suc top) most pl ≡ lean C.X (suc l) b pl'
  pub told : lean_notes C.X (suc top) most pl (notes m w) ≡ lean_notes C.X (suc l) b pl' (notes m w')
  pub kept : Moved m w w'
  pub at : LeanAt C m n k l wd half gates pl' w' b

pub record Leaned (C : Context) (m l : ℕ) (pl w : List ℕ) (b : ℕ) (pl' w' : List ℕ) : Type 0 where
  pub same : pl' ≡ lean C.X (suc l) b pl
  pub told : notes m w' ≡ lean_notes C.X (suc l) b pl (notes m w)
  pub kept : Moved m w w'
  pub tally : Tally C m pl' w'
