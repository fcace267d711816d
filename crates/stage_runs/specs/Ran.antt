-- Rule 8 as a whole. pl is the stage, w the work area. Assumes nothing.
use Rattle.std.specs.Prelude.{◌≡◌, ◌≢◌, List, [], ◌∷◌, ℕ, ◌+◌, ◌*◌, ◌<◌, ◌≤◌, length, get_or}
use Rattle.rules.specs.Cells.{row_at}
use Rattle.rules.specs.Ending.{in_need, last_stage, written}
use Rattle.rules.specs.Lists.{In}
use Rattle.rules.specs.Traversal.{needed_runs}
use Rattle.columns.specs.Fields.{CELLS, STACK, PHASE, MARK, SPARE, TAIL, ONES, PINS, FILLED}
use Rattle.columns.specs.Area.{Frame}
use Rattle.columns.specs.Lists.{Marks, Marked}
use Rattle.stage_walk.specs.Stands.{Context, Begun}
use Rattle.stage_tree.specs.Bits.{Standing}
use Rattle.stage_runs.specs.declared.Spent.{Spent}
use Rattle.stage_runs.specs.Laid.{noted}

pub record EndAt (C : Context) (m K half n : ℕ) (at room : ℕ) (gates pl w words : List ℕ) : Type 0 where
  pub stands : Standing C m 1 gates pl w
  pub begun : Begun C m n gates w
  pub height : K ≡ C.X.K
  pub row : half ≡ row_at K 1
  pub ruled : C.X.rule ≡ needed_runs
  pub marks : (p : ℕ) → p < m → get_or w (MARK * m + p) 0 ≡ 0
  pub spare : (p : ℕ) → p < m → get_or w (SPARE * m + p) 0 ≡ 0
  pub fits : at + room ≤ length words

-- what rule 8 changes
pub record Touched (m : ℕ) (w w' : List ℕ) : Type 0 where
  pub frame : Frame (CELLS ∷ STACK ∷ PHASE ∷ MARK ∷ SPARE ∷ TAIL ∷ []) m w w'
  pub rest : (j : ℕ) → 16 * m ≤ j → j ≢ 16 * m + ONES → j ≢ 16 * m + PINS → j ≢ 16 * m + FILLED → get_or w' j 0 ≡ get_or w j 0

pub record Ran (C : Context) (m at room : ℕ) (gates pl w words : List ℕ) (e : Spent) (pl' w' words' : List ℕ) : Type 0 where
  pub touched : Touched m w w'
  pub stands : Standing C m 1 gates pl' w'
  pub size : length pl' ≡ length pl
  pub is_plan : pl' ≡ (written C.X pl).plan
  pub is_last : e.last ≡ last_stage C.X pl
  pub needed : Marks SPARE m (in_need C.X pl) w'
  pub realised : Marked STACK MARK m e.real (written C.X pl).real w'
  pub waits : (x : ℕ) → In x (written C.X pl).real → In x C.X.waiting
  pub count : e.words ≡ length (written C.X pl).words
  pub few : e.words ≤ 128
  pub wrote : words' ≡ noted at room (written C.X pl).words words
