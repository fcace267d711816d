-- The waiting list of the records. Assumes nothing.
use Rattle.std.specs.Prelude.{◌≡◌, true, List, [], ◌∷◌, ℕ, ◌<◌, ◌≤◌, ltb, length, drop}
use Rattle.rules.specs.Lists.{keep, insert_all}
use Rattle.rules.specs.Records.{Group, groups, read, group_at, whole_at, endpoints_of, waiting_of, groups_of, Ends}
use Rattle.records.specs.Values.{size_at, endpoint_at}
use Rattle.columns.specs.Fields.{WAITING, PLACE}
use Rattle.columns.specs.Area.{Room, Frame}
use Rattle.columns.specs.Lists.{list, Clear, Placed}

-- records that passed check 4: their pins are below m
pub record Readable (m : ℕ) (records : List ℕ) : Type 0 where
  pub short : length records ≤ 65536
  pub readable : read records ≡ groups (groups_of records)
  pub named : (q : ℕ) → Ends q (groups_of records) → q < m

-- ---- a pin, unless it is pin 0

pub record PinWaits (m n p : ℕ) (w w' : List ℕ) (r : ℕ) : Type 0 where
  pub frame : Frame (WAITING ∷ PLACE ∷ []) m w w'
  pub now : Placed WAITING PLACE m r (insert_all (keep (ltb 0) (p ∷ [])) (list WAITING m n w)) w'

-- ---- the record at an index

pub record RecordAt (m n at : ℕ) (records w : List ℕ) : Type 0 where
  pub area : Room m w
  pub whole : whole_at (drop at records) ≡ true
  pub pins : (i : ℕ) → i < size_at records at → endpoint_at records at i < m
  pub now : Placed WAITING PLACE m n (list WAITING m n w) w

pub record RecordWaits (m n at : ℕ) (records w w' : List ℕ) (r : ℕ) : Type 0 where
  pub frame : Frame (WAITING ∷ PLACE ∷ []) m w w'
  pub now : Placed WAITING PLACE m r (insert_all (keep (ltb 0) (endpoints_of (group_at (drop at records)))) (list WAITING m n w)) w'

-- ---- all records

pub record WaitAllAt (m : ℕ) (records w : List ℕ) : Type 0 where
  pub area : Room m w
  pub right : Readable m records
  pub clear : Clear PLACE m w

pub record AllWait (m : ℕ) (gs : List Group) (w w' : List ℕ) (r : ℕ) : Type 0 where
  pub frame : Frame (WAITING ∷ PLACE ∷ []) m w w'
  pub now : Placed WAITING PLACE m r (waiting_of gs []) w'
