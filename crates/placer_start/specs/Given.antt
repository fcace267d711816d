-- The given pins' marks. Assumes nothing.
use Rattle.std.specs.Prelude.{List, [], ◌∷◌, ℕ, ◌<◌}
use Rattle.rules.specs.Lists.{In}
use Rattle.columns.specs.Fields.{DONE}
use Rattle.columns.specs.Area.{Room, Frame}
use Rattle.columns.specs.Lists.{Marks, Clear}

pub record GivenAt (m : ℕ) (given w : List ℕ) : Type 0 where
  pub area : Room m w
  pub clear : Clear DONE m w
  pub pins : (q : ℕ) → In q given → q < m

pub record Given (m : ℕ) (given w w' : List ℕ) : Type 0 where
  pub frame : Frame (DONE ∷ []) m w w'
  pub marks : Marks DONE m given w'
