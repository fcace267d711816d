-- The reservation for named groups. Assumes nothing.
use Rattle.std.specs.Prelude.{◌≡◌, true, false, Option, Some, None, List, ◌++◌, ℕ, ◌+◌, ◌*◌, ◌≤◌, length}
use Rattle.rules.specs.Cells.{word_limit}
use Rattle.rules.specs.Records.{Group, groups_of}
use Rattle.rules.specs.Reservation.{activations, reservable}
use Rattle.columns.specs.Fields.{RANKED, RECORDS}
use Rattle.columns.specs.Area.{Room}
use Rattle.columns.specs.Lists.{Clear}
use Rattle.placer_start.specs.declared.reservation.Count.{Count}
use Rattle.placer_start.specs.Reservation.{Touched, Chains, Counts}
use Rattle.merge_unions.specs.Names.{picked, Names}

-- xs are counted, with k indices, and pass no limit
pub record SoFar (m limit k : ℕ) (count : Count) (xs : List Group) (w : List ℕ) : Type 0 where
  pub chains : Chains m k (activations xs) w
  pub counts : Counts xs count
  pub few : count.memories + count.duplicates ≤ k
  pub fine : (K : ℕ) → limit ≡ word_limit K → reservable K xs ≡ true

pub record PartAt (m table limit k : ℕ) (count : Count) (xs : List Group) (records names w : List ℕ) : Type 0 where
  pub area : Room m w
  pub named : Names m table records names w
  pub room : 16 * m + RECORDS + 2 * (k + length names) ≤ table
  pub few : k + length names ≤ 4294967295
  pub now : SoFar m limit k count xs w

pub record PartCounted (m limit k : ℕ) (xs : List Group) (records names w w' : List ℕ) (r : Option Count) : Type 0 where
  pub touched : Touched m (k + length names) w w'
  pub over : r ≡ None → (K : ℕ) → limit ≡ word_limit K → reservable K (xs ++ picked (groups_of records) names) ≡ false
  pub on : (count : Count) → r ≡ Some count → SoFar m limit (k + length names) count (xs ++ picked (groups_of records) names) w'

pub record BothAt (m table : ℕ) (records first second w : List ℕ) : Type 0 where
  pub area : Room m w
  pub one : Names m table records first w
  pub two : Names m table records second w
  pub room : 16 * m + RECORDS + 2 * (length first + length second) ≤ table
  pub few : length first + length second ≤ 4294967295
  pub clear : Clear RANKED m w
