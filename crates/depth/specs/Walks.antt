-- What the walks that give D, and the count of what is set aside, start from and leave. Assumes nothing.
use Rattle.std.specs.Prelude.{ℕ, ◌≡◌, Bool, List, length, replicate}
use Rattle.rules.specs.Graph.{graph_of, pin_count}
use Rattle.rules.specs.Records.{groups_of}
use Rattle.rules.specs.Checks.{work_size}
use Rattle.rules.specs.Depth.{deepest}
use Rattle.checks.specs.Passed.{Passed}
use Rattle.placer_start.specs.declared.reservation.Count.{Count}
use Rattle.placer_start.specs.Reservation.{Counts, Few}
use Rattle.placer_start.specs.Opening.{BeginAt}

-- input that passed the checks, whatever the height, and an area that a build may begin in
pub record WalkAt (m : ℕ) (gates given records w : List ℕ) : Type 0 where
  pub K : ℕ
  pub sized : Bool
  pub passed : Passed K sized gates given records
  pub pins : m ≡ pin_count gates
  pub begin : BeginAt m given records w

-- the same in an area of exactly its counted size
pub record MeasureAt (gates given records w : List ℕ) : Type 0 where
  pub K : ℕ
  pub sized : Bool
  pub passed : Passed K sized gates given records
  pub size : length w ≡ work_size gates records

pub record Measured (gates given records w : List ℕ) (d : ℕ) (w' : List ℕ) : Type 0 where
  pub depth : d ≡ deepest (graph_of gates) given (groups_of records)
  pub work : w' ≡ replicate (length w) 0

-- every record counted, in an area that keeps its length
pub record Totalled (records w : List ℕ) (r : Count) (w' : List ℕ) : Type 0 where
  pub counts : Counts (groups_of records) r
  pub few : Few r
  pub len : length w' ≡ length w

-- so few that the words set aside fit, and the area is 0
pub record Tallied (records w : List ℕ) (r : Count) (w' : List ℕ) : Type 0 where
  pub counts : Counts (groups_of records) r
  pub few : Few r
  pub work : w' ≡ replicate (length w) 0
