-- What a stage has before its first placing, and how its lists go again. Assumes nothing.
use Rattle.std.specs.Prelude.{◌≡◌, List, [], ◌∷◌, map, ℕ, ◌≤◌}
use Rattle.rules.specs.Traversal.{level_at, greatest}
use Rattle.columns.specs.Area.{Room, Frame}
use Rattle.columns.specs.Fields.{ORDER, LEVEL, RANKED, STARTS, ENDS, REVERSE, LISTED, STACK, PHASE}
use Rattle.columns.specs.Lists.{Marks, Clear}
use Rattle.stage_walk.specs.Stands.{Context, Begun, Reversed, Set, Fresh}
use Rattle.stage_prepare.specs.Ranking.{Beyond}

pub record PrepareAt (C : Context) (m n K : ℕ) (gates w : List ℕ) : Type 0 where
  pub begun : Begun C m n gates w
  pub height : K ≡ C.X.K
  pub fresh : Fresh m w

abbrev pub prepared : List ℕ
prepared = ORDER ∷ LEVEL ∷ RANKED ∷ STARTS ∷ ENDS ∷ REVERSE ∷ LISTED ∷ STACK ∷ PHASE ∷ []

pub record Prepared (C : Context) (m n : ℕ) (gates w w' : List ℕ) (k top levels : ℕ) : Type 0 where
  pub frame : Frame prepared m w w'
  pub set : Set C m n k gates w'
  pub reversed : Reversed C m w'
  pub marks : Marks LISTED m C.X.order w'
  pub most : top ≡ greatest (map (level_at C.X) C.X.order) 0
  pub few : levels ≤ m
  pub beyond : Beyond m levels w'

-- ---- the stage's end

-- all that counted from `levels` on is 0
pub record ForgetAt (m levels : ℕ) (w : List ℕ) : Type 0 where
  pub area : Room m w
  pub few : levels ≤ m
  pub beyond : Beyond m levels w

pub record Forgot (m : ℕ) (w w' : List ℕ) : Type 0 where
  pub frame : Frame (STARTS ∷ ENDS ∷ []) m w w'
  pub starts : Clear STARTS m w'
  pub ends : Clear ENDS m w'
