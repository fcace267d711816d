-- Rules 2 to 7 on an empty stage. pl is the stage, w the work area. Assumes nothing.
use Rattle.std.specs.Prelude.{◌≡◌, List, [], map, ℕ, ◌+◌, ◌*◌, ◌≤◌, min, length, get_or}
use Rattle.rules.specs.Traversal.{level_at, greatest}
use Rattle.rules.specs.Placing.{needed_of, filled_plan}
use Rattle.rules.specs.Inside.Lean.{blank, lean_plan}
use Rattle.rules.specs.Inside.Plans.{Fair}
use Rattle.columns.specs.Fields.{CELLS, NEEDED, STACK, MARK, ONES, PINS, FILLED}
use Rattle.columns.specs.Lists.{Holds, Marks, Clear}
use Rattle.stage_walk.specs.Stands.{Context, Set, Tally}
use Rattle.stage_tree.specs.Bits.{Standing}
use Rattle.stage_needed.specs.Needed.{Asking}
use Rattle.stage_notes.specs.Notes.{notes, stage_notes}
use Rattle.stage_loop.specs.Loop.{Changed}

-- a height, and one of its levels
pub record RowAt (K h : ℕ) : Type 0 where
  pub least : 6 ≤ K
  pub most : K ≤ 13
  pub level : h ≤ K

-- the empty plan, and the level to start at
pub record GrowAt (C : Context) (m n k h K : ℕ) (gates pl w : List ℕ) : Type 0 where
  pub set : Set C m n k gates w
  pub clear : Marks MARK m [] w
  pub tally : Tally C m pl w
  pub fair : Fair C.X h pl
  pub first : pl ≡ blank C.X
  pub level : h ≡ min (greatest (map (level_at C.X) C.X.order) 0) C.X.K
  pub low : 2 ≤ h
  pub height : K ≡ C.X.K

-- s pins are noted
pub record Grown (C : Context) (m : ℕ) (w : List ℕ) (s : ℕ) (pl' w' : List ℕ) : Type 0 where
  pub is : pl' ≡ lean_plan C.X
  pub told : notes m w' ≡ stage_notes C.X (notes m w)
  pub kept : Changed m w w'
  pub tally : Tally C m pl' w'
  pub asking : Asking C m STACK s w'

-- nothing is placed or counted yet; top is the greatest level
pub record FillAt (C : Context) (m n k top K : ℕ) (gates pl w : List ℕ) : Type 0 where
  pub set : Set C m n k gates w
  pub clear : Clear MARK m w
  pub first : pl ≡ blank C.X
  pub cells : Clear CELLS m w
  pub ones : get_or w (16 * m + ONES) 0 ≡ 0
  pub pins : get_or w (16 * m + PINS) 0 ≡ 0
  pub total : get_or w (16 * m + FILLED) 0 ≡ 0
  pub most : top ≡ greatest (map (level_at C.X) C.X.order) 0
  pub height : K ≡ C.X.K

-- the contract: the plan of rules 2 to 7 with its counts, and its q needed pins; the pins taken back are noted
pub record FilledTree (C : Context) (m : ℕ) (gates pl w : List ℕ) (q : ℕ) (pl' w' : List ℕ) : Type 0 where
  pub is : pl' ≡ filled_plan C.X
  pub told : notes m w' ≡ stage_notes C.X (notes m w)
  pub size : length pl' ≡ length pl
  pub kept : Changed m w w'
  pub stands : Standing C m 1 gates pl' w'
  pub needed : Holds NEEDED m q (needed_of C.X pl') w'
