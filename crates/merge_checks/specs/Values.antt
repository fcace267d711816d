-- The group list and the areas of a merge, from their parts. Assumes nothing.
use Rattle.std.specs.Prelude.{ℕ, ◌+◌, ◌*◌, ◌/◌, ◌≤◌, Bool, ◌&&◌, List, ◌≡◌, eqb, length}
use Rattle.rules.specs.Lists.{sum}
use Rattle.rules.specs.Records.{groups, read, groups_of}
use Rattle.rules.specs.Checks.{areas_sized}
use Rattle.rules.specs.Build.{Areas}
use Rattle.rules.specs.Merge.{GroupList}

unfoldable pub group_list : (indices lengths stages : List ℕ) → GroupList
group_list xs ls st = record { indices = xs; lengths = ls; stages = st }

unfoldable pub areas : (plan words counts work : List ℕ) → Areas
areas pl ws cs w = record { plan = pl; words = ws; counts = cs; work = w }

-- check 2, by the lengths of everything but the list of lengths
unfoldable pub merge_areas : ℕ → (gates records indices : ℕ) → List ℕ → (stages plan words counts work : ℕ) → Bool
merge_areas K gates records indices ls stages plan words counts work =
    areas_sized K (16 * (gates / 2) + 8 * records + 512 + 8 * length ls + 8 * indices) plan words counts work && eqb (length ls) stages && eqb (sum ls) indices

pub record Readable (records : List ℕ) : Type 0 where
  pub short : length records ≤ 65536
  pub readable : read records ≡ groups (groups_of records)
