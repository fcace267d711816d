-- The waiting list of named groups. Assumes nothing.
use Rattle.std.specs.Prelude.{List, [], ◌∷◌, ℕ}
use Rattle.rules.specs.Records.{waiting_of, groups_of}
use Rattle.columns.specs.Fields.{WAITING, PLACE}
use Rattle.columns.specs.Area.{Room, Frame}
use Rattle.columns.specs.Lists.{list, Clear, Placed}
use Rattle.merge_unions.specs.Names.{picked, Names}

pub record PartAt (m table n : ℕ) (records names w : List ℕ) : Type 0 where
  pub area : Room m w
  pub named : Names m table records names w
  pub now : Placed WAITING PLACE m n (list WAITING m n w) w

pub record PartWaits (m n : ℕ) (records names w w' : List ℕ) (r : ℕ) : Type 0 where
  pub frame : Frame (WAITING ∷ PLACE ∷ []) m w w'
  pub now : Placed WAITING PLACE m r (waiting_of (picked (groups_of records) names) (list WAITING m n w)) w'

pub record BothAt (m table : ℕ) (records first second w : List ℕ) : Type 0 where
  pub area : Room m w
  pub one : Names m table records first w
  pub two : Names m table records second w
  pub clear : Clear PLACE m w
