-- A union of two partitions: what its calls find, answer and leave. Assumes nothing.
use Rattle.std.specs.Prelude.{◌≡◌, Bool, Result, List, ◌++◌, ℕ, ◌+◌, ◌*◌, ◌<◌, ◌≤◌, length, get_or, replicate}
use Rattle.rules.specs.Cells.{empty, rooms}
use Rattle.rules.specs.Graph.{graph_of, pin_count}
use Rattle.rules.specs.Records.{groups_of}
use Rattle.rules.specs.Traversal.{WordRule}
use Rattle.rules.specs.Build as rules
use Rattle.rules.specs.Merge.{Common, built_of, size_for}
use Rattle.rules.specs.Lists.{In}
use Rattle.columns.specs.Fields.{RECORDS}
use Rattle.checks.specs.Passed.{Passed}
use Rattle.placer_start.specs.Opening.{Idle, Opens}
use Rattle.placer.specs.declared.Built as placer
use Rattle.placer.specs.declared.Refused.{Refused}
use Rattle.placer.specs.Answers.{told}
use Rattle.placer.specs.Build.{Blank}
use Rattle.placer.specs.Stages.{Kept}
use Rattle.merge_unions.specs.Table.{Located}
use Rattle.merge_unions.specs.Names.{picked, Names}

-- records and graph passed the checks, the names are those of groups, and the area has room before the table for two numbers a name
pub record UnionAt (K m table : ℕ) (gates given records first second w : List ℕ) : Type 0 where
  pub sized : Bool
  pub passed : Passed K sized gates given records
  pub pins : m ≡ pin_count gates
  pub idle : Idle m w
  pub located : Located table (groups_of records) records w
  pub first_inside : (i : ℕ) → In i first → i < length (groups_of records)
  pub second_inside : (i : ℕ) → In i second → i < length (groups_of records)
  pub room : 16 * m + RECORDS + 2 * (length first + length second) ≤ table
  pub few : length first + length second ≤ 4294967295

-- what a call leaves
pub record Leaves (m table : ℕ) (w w' : List ℕ) : Type 0 where
  pub len : length w' ≡ length w
  pub idle : Idle m w'
  pub past : (j : ℕ) → table ≤ j → get_or w' j 0 ≡ get_or w j 0

-- a merge of these groups
pub record Shares (gates given records : List ℕ) (J : Common) : Type 0 where
  pub graph : J.g ≡ graph_of gates
  pub given_same : J.given ≡ given
  pub groups_same : J.groups ≡ groups_of records

-- ---- the size

-- it is the same at every height
pub record SizeAt (m table : ℕ) (gates given records first second w : List ℕ) : Type 0 where
  pub K : ℕ
  pub at : UnionAt K m table gates given records first second w

pub record Measured (m table : ℕ) (gates given records first second w : List ℕ) (r : ℕ) (w' : List ℕ) : Type 0 where
  pub leaves : Leaves m table w w'
  pub size : (J : Common) → Shares gates given records J → r ≡ size_for J (first ++ second)
  pub few : r ≤ m

-- ---- the build

pub record OpenAt (m table : ℕ) (given records first second w : List ℕ) : Type 0 where
  pub opens : Opens m given w
  pub one : Names m table records first w
  pub two : Names m table records second w
  pub room : 16 * m + RECORDS + 2 * (length first + length second) ≤ table
  pub few : length first + length second ≤ 4294967295

pub record TryAt (K m table : ℕ) (gates given records first second pl ws cs w : List ℕ) : Type 0 where
  pub union : UnionAt K m table gates given records first second w
  pub blank : Blank K pl ws cs

-- the areas keep their lengths
pub record Tried (rule : WordRule) (K m table : ℕ) (gates given records first second pl ws cs w : List ℕ) (a : Result placer.Built Refused) (pl' ws' cs' w' : List ℕ) : Type 0 where
  pub kept : Kept pl ws cs w pl' ws' cs' w'
  pub past : (j : ℕ) → table ≤ j → get_or w' j 0 ≡ get_or w j 0
  pub reply : told a ≡ rules.reply (rules.build rule K (graph_of gates) given (picked (groups_of records) (first ++ second)) (rooms K (length pl)))

-- a merge of these groups in these areas
pub record Places (rule : WordRule) (K size : ℕ) (gates given records : List ℕ) (J : Common) : Type 0 where
  pub shares : Shares gates given records J
  pub rule_same : J.rule ≡ rule
  pub height : J.K ≡ K
  pub rooms_same : J.rooms ≡ rooms K size

pub record UnionBuilt (rule : WordRule) (K m table : ℕ) (gates given records first second pl ws cs w : List ℕ) (a : Result placer.Built Refused) (pl' ws' cs' w' : List ℕ) : Type 0 where
  pub leaves : Leaves m table w w'
  pub plan : pl' ≡ replicate (length pl) empty
  pub words : ws' ≡ replicate (length ws) empty
  pub counts : cs' ≡ replicate (length cs) 0
  pub reply : (J : Common) → Places rule K (length pl) gates given records J → told a ≡ rules.reply (built_of J (first ++ second))
