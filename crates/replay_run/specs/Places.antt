-- The places that the records hand out, from their numbers. Assumes nothing.
use Rattle.std.specs.Prelude.{ℕ, ◌+◌, ◌≤◌, ◌<◌, ◌≡◌, true, false, List, ◌++◌, eqb, length, get_or, take, drop}
use Rattle.rules.specs.Graph.{inversion_of}
use Rattle.rules.specs.Records.{groups, read, group_at, whole_at, groups_of}
use Rattle.rules.specs.Records.{Ends}
use Rattle.records.specs.Values.{size_at, endpoint_at}
use Rattle.replay_tape.specs.Clocks.{record_places, places_of}

-- the inversion of a number behind a kind
unfoldable pub inversion_by : (kind number : ℕ) → ℕ
inversion_by k x = elim (eqb k 4) [ true ↦ 0 | false ↦ inversion_of x ]

-- the inversion, which is 0 or 1
pub record Inverts (kind number r : ℕ) : Type 0 where
  pub is : r ≡ inversion_by kind number
  pub small : r ≤ 1

-- the slot that a pin is read from
abbrev pub read_in : List ℕ → ℕ → ℕ
read_in reads q = get_or reads q 0

-- a whole record whose pins have slots, and room
pub record RecordIn (records reads : List ℕ) (at size : ℕ) (places : List ℕ) (j : ℕ) : Type 0 where
  pub whole : whole_at (drop at records) ≡ true
  pub sized : size ≡ size_at records at
  pub pins : (i : ℕ) → i < size → endpoint_at records at i < length reads
  pub small : (q : ℕ) → q < length reads → get_or reads q 0 < 2147483648
  pub room : j + size ≤ length places

-- its places stand behind j of them
pub record RecordPut (records reads : List ℕ) (at size j : ℕ) (places places' : List ℕ) : Type 0 where
  pub len : length places' ≡ length places
  pub is : take (j + size) places' ≡ take j places ++ record_places (read_in reads) (group_at (drop at records))

-- readable records that name only pins that have a slot, and room for a place each
pub record PlacesIn (records reads places : List ℕ) : Type 0 where
  pub readable : read records ≡ groups (groups_of records)
  pub named : (q : ℕ) → Ends q (groups_of records) → q < length reads
  pub small : (q : ℕ) → q < length reads → get_or reads q 0 < 2147483648
  pub room : length records ≤ length places

-- those of all records
pub record PlacesPut (records reads places places' : List ℕ) (r : ℕ) : Type 0 where
  pub len : length places' ≡ length places
  pub count : r ≤ length records
  pub is : take r places' ≡ places_of (read_in reads) (groups_of records)
