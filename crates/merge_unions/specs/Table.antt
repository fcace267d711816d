-- The table of record starts. Assumes nothing.
use Rattle.std.specs.Prelude.{◌≡◌, true, List, ℕ, ◌+◌, ◌<◌, ◌≤◌, length, get_or, drop}
use Rattle.rules.specs.Records.{Group, output, groups, read, group_at, whole_at, groups_of}

-- the record of group i starts at the number that stands at table + i
pub record Located (table : ℕ) (gs : List Group) (records w : List ℕ) : Type 0 where
  pub room : table + length gs ≤ length w
  pub whole : (i : ℕ) → i < length gs → whole_at (drop (get_or w (table + i) 0) records) ≡ true
  pub group : (i : ℕ) → i < length gs → group_at (drop (get_or w (table + i) 0) records) ≡ get_or gs i (output 0)

-- records that passed check 4
pub record LocateAt (table : ℕ) (records w : List ℕ) : Type 0 where
  pub room : table + length records ≤ length w
  pub short : length records ≤ 65536
  pub readable : read records ≡ groups (groups_of records)

-- only the table changed
pub record Locates (table : ℕ) (records w w' : List ℕ) (r : ℕ) : Type 0 where
  pub count : r ≡ length (groups_of records)
  pub few : r ≤ length records
  pub located : Located table (groups_of records) records w'
  pub len : length w' ≡ length w
  pub below : (j : ℕ) → j < table → get_or w' j 0 ≡ get_or w j 0
  pub past : (j : ℕ) → table + length records ≤ j → get_or w' j 0 ≡ get_or w j 0
