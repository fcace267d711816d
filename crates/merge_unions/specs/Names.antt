-- Groups named by their indices. Assumes nothing.
use Rattle.std.specs.Prelude.{List, map, ℕ, ◌+◌, ◌*◌, ◌<◌, ◌≤◌, length, get_or}
use Rattle.rules.specs.Records.{Group, output, groups_of, Ends}
use Rattle.rules.specs.Lists.{In}
use Rattle.columns.specs.Fields.{RECORDS}
use Rattle.merge_unions.specs.Table.{Located}

unfoldable pub picked : List Group → List ℕ → List Group
picked gs is = map (λ i. get_or gs i (output 0)) is

-- every name is that of a group, whose record is in the table behind a build's numbers
pub record Names (m table : ℕ) (records names w : List ℕ) : Type 0 where
  pub located : Located table (groups_of records) records w
  pub behind : 16 * m + RECORDS ≤ table
  pub inside : (i : ℕ) → In i names → i < length (groups_of records)
  pub pins : (q : ℕ) → Ends q (groups_of records) → q < m
