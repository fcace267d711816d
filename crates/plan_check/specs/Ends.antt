-- Endpoints by marks of the written pins. Assumes nothing.
use Rattle.std.specs.Prelude.{ℕ, ◌≤◌, ◌≡◌, Bool, true, not, ◌||◌, List, [], ltb, length, drop}
use Rattle.rules.specs.Lists.{every}
use Rattle.rules.specs.Records.{groups, read, group_at, groups_of, whole_at, endpoints_of, waiting_of}
use Rattle.plan_check_stage.specs.Marks.{marked}

-- the constant needs no mark
unfoldable pub end_passes : (ℕ → Bool) → ℕ → Bool
end_passes f q = not (ltb 0 q) || f q

pub record RecordAt (records : List ℕ) (at : ℕ) : Type 0 where
  pub whole : whole_at (drop at records) ≡ true
  pub short : length records ≤ 65536

pub record RecordWritten (records marks : List ℕ) (at : ℕ) (r : Bool) : Type 0 where
  pub is : r ≡ every (end_passes (marked marks)) (endpoints_of (group_at (drop at records)))

pub record EndsAt (records : List ℕ) : Type 0 where
  pub readable : read records ≡ groups (groups_of records)
  pub short : length records ≤ 65536

pub record EndsWritten (records marks : List ℕ) (r : Bool) : Type 0 where
  pub is : r ≡ every (marked marks) (waiting_of (groups_of records) [])
