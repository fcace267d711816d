-- Placing and taking back, cell by cell: what each function asks and leaves. pl is the stage, u the work area. Assumes nothing.
use Rattle.std.specs.Prelude.{◌≡◌, ◌≢◌, false, List, ℕ, ◌+◌, ◌*◌, ◌<◌, ◌≤◌, length, get_or, set}
use Rattle.rules.specs.Cells.{empty, filled, stage_size, row_at}
use Rattle.rules.specs.Traversal.{level_at}
use Rattle.rules.specs.Placing.{place, cost, take_back, freed}
use Rattle.rules.specs.Lists.{count, In}
use Rattle.rules.specs.Inside.Plans.{Under, Fair, Tall}
use Rattle.columns.specs.Area.{Room}
use Rattle.columns.specs.Fields.{FILLED}
use Rattle.stage_walk.specs.Stands.{Context, Base, Levelled, Tally}
use Rattle.stage_tree.specs.Counts.{Inner, Kept, Counts}

-- the cell at position p of level h, in a stage with its counts
pub record Spot (C : Context) (m h p : ℕ) (pl u : List ℕ) : Type 0 where
  pub area : Room m u
  pub size : length C.X.g ≡ m
  pub tally : Counts C m pl u
  pub len : length pl ≡ stage_size C.X.K
  pub high : h ≤ C.X.K
  pub from : row_at C.X.K h ≤ p
  pub to : p < row_at C.X.K h + row_at C.X.K h

-- ---- one cell

-- it is empty, and n a listed pin
pub record FillAt (C : Context) (m h p n : ℕ) (pl u : List ℕ) : Type 0 where
  pub spot : Spot C m h p pl u
  pub free : filled (get_or pl p empty) ≡ false
  pub listed : In n C.X.seen

pub record Filled (C : Context) (m p n : ℕ) (pl u pl' u' : List ℕ) : Type 0 where
  pub plan : pl' ≡ set pl p n
  pub kept : Inner m u u'
  pub tally : Counts C m pl' u'

-- it holds pin n
pub record EmptyAt (C : Context) (m h p n : ℕ) (pl u : List ℕ) : Type 0 where
  pub spot : Spot C m h p pl u
  pub tall : Tall C.X pl
  pub is : n ≡ get_or pl p 0
  pub full : n ≢ 4294967295

pub record Emptied (C : Context) (m p : ℕ) (pl u pl' u' : List ℕ) : Type 0 where
  pub plan : pl' ≡ set pl p empty
  pub kept : Inner m u u'
  pub tally : Counts C m pl' u'

-- ---- a cell and all under it; w is where its row begins

-- all is empty
pub record BitAt (C : Context) (m h w p n : ℕ) (gates pl u : List ℕ) : Type 0 where
  pub spot : Spot C m h p pl u
  pub base : Base C m gates u
  pub levelled : Levelled C m u
  pub row : w ≡ row_at C.X.K h
  pub under : Under w p pl
  pub listed : In n C.X.seen

-- the gate n stands in the cell, and nothing under it
pub record SplitAt (C : Context) (m h w p n : ℕ) (gates pl u : List ℕ) : Type 0 where
  pub spot : Spot C m h p pl u
  pub base : Base C m gates u
  pub levelled : Levelled C m u
  pub row : w ≡ row_at C.X.K h
  pub holds : get_or pl p empty ≡ n
  pub first : Under (2 * w) (p + w) pl
  pub second : Under (2 * w) (p + 2 * w) pl
  pub listed : In n C.X.seen
  pub above : 0 < h
  pub level : h ≤ level_at C.X n

-- r cells were filled; placing again what stands in the cell changes nothing there, so this says what splitting leaves too
pub record BitPlaced (C : Context) (m h w p n r : ℕ) (pl u pl' u' : List ℕ) : Type 0 where
  pub plan : pl' ≡ place C.X h w p n pl
  pub cells : r ≡ cost C.X h n
  pub kept : Inner m u u'
  pub tally : Counts C m pl' u'

-- each filled cell holds a listed pin
pub record BackAt (C : Context) (m h w p : ℕ) (pl u : List ℕ) : Type 0 where
  pub spot : Spot C m h p pl u
  pub row : w ≡ row_at C.X.K h
  pub tall : Tall C.X pl

-- r cells were emptied
pub record BitPurged (C : Context) (m h w p r : ℕ) (pl u pl' u' : List ℕ) : Type 0 where
  pub plan : pl' ≡ take_back h w p pl
  pub cells : r ≡ freed h w p pl
  pub kept : Inner m u u'
  pub tally : Counts C m pl' u'
  pub tall : Tall C.X pl'

-- ---- the same with the filled cells of all levels added up

pub record PlaceAt (C : Context) (m h w p n : ℕ) (gates pl u : List ℕ) : Type 0 where
  pub bit : BitAt C m h w p n gates pl u
  pub total : get_or u (16 * m + FILLED) 0 ≡ count filled pl

pub record Placed (C : Context) (m h w p n : ℕ) (pl u pl' u' : List ℕ) : Type 0 where
  pub plan : pl' ≡ place C.X h w p n pl
  pub kept : Kept m u u'
  pub tally : Tally C m pl' u'

pub record PurgeAt (C : Context) (m h w p : ℕ) (pl u : List ℕ) : Type 0 where
  pub back : BackAt C m h w p pl u
  pub total : get_or u (16 * m + FILLED) 0 ≡ count filled pl

pub record Purged (C : Context) (m h w p : ℕ) (pl u pl' u' : List ℕ) : Type 0 where
  pub plan : pl' ≡ take_back h w p pl
  pub kept : Kept m u u'
  pub tally : Tally C m pl' u'

-- ---- the invariants while level h is filled: under an empty cell all is empty (`fair.tidy`), a pin's count is the number of cells
-- above level 0 that hold it (`tally`); from `tally` follows that counts never overflow (`Few`)
pub record Standing (C : Context) (m h : ℕ) (gates pl u : List ℕ) : Type 0 where
  pub base : Base C m gates u
  pub levelled : Levelled C m u
  pub tally : Tally C m pl u
  pub fair : Fair C.X h pl
