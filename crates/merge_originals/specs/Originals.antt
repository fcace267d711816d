-- The partitions as they are given, built and measured: what is found and left. Assumes nothing.
use Rattle.std.specs.Prelude.{ℕ, ◌+◌, ◌*◌, ◌<◌, ◌≤◌, Result, Ok, Err, IfOk, IfErr, Bool, true, List, ◌≡◌, length, get_or}
use Rattle.rules.specs.Lists.{sum, In}
use Rattle.rules.specs.Graph.{pin_count}
use Rattle.rules.specs.Records.{groups_of}
use Rattle.rules.specs.Traversal.{WordRule}
use Rattle.rules.specs.Build as rules
use Rattle.rules.specs.Merge.{Common, Part, Parts, bad, good, built_of, size_for, original, most_stages, split_by}
use Rattle.columns.specs.Fields.{RECORDS}
use Rattle.checks.specs.Passed.{Passed}
use Rattle.placer_start.specs.Opening.{Idle}
use Rattle.refusals.specs.Numbers.{number_of, pin_of}
use Rattle.placer.specs.declared.Built as placer
use Rattle.placer.specs.declared.Refused.{Refused}
use Rattle.placer.specs.Answers.{told}
use Rattle.placer.specs.Build.{Blank}
use Rattle.merge_unions.specs.Table.{Located}
use Rattle.merge_unions.specs.Unions.{Shares, Places}
use Rattle.merge_slots.specs.Slots.{listed, held}
use Rattle.merge_slots.specs.Stores.{Stored}
use Rattle.merge_layout.specs.Layout.{owned}
use Rattle.merge_originals.specs.declared.RefusedPart.{RefusedPart}

-- what a merge finds between its calls: the checks passed, a work area that a build may begin in, the table of record starts, and behind
-- it the own numbers of n slots
pub record Ground (K m table base n : ℕ) (gates given records w : List ℕ) : Type 0 where
  pub sized : Bool
  pub passed : Passed K sized gates given records
  pub pins : m ≡ pin_count gates
  pub idle : Idle m w
  pub located : Located table (groups_of records) records w
  pub front : 16 * m + RECORDS ≤ table
  pub behind : table + length (groups_of records) ≤ base
  pub few : n ≤ 1024
  pub room : base + 8 * n ≤ length w

-- a partition's groups are there, and its chains have room
pub record Grouped (m table : ℕ) (records part : List ℕ) : Type 0 where
  pub named : (i : ℕ) → In i part → i < length (groups_of records)
  pub room : 16 * m + RECORDS + 2 * length part ≤ table
  pub few : length part ≤ 4294967295

-- from the table on only own numbers changed
pub record Changes (m table base n : ℕ) (w w' : List ℕ) : Type 0 where
  pub len : length w' ≡ length w
  pub idle : Idle m w'
  pub starts : (j : ℕ) → table ≤ j → j < base → get_or w' j 0 ≡ get_or w j 0
  pub past : (j : ℕ) → base + 8 * n ≤ j → get_or w' j 0 ≡ get_or w j 0

-- ---- one slot

pub record NoteAt (m table base n s stages words cells : ℕ) (gates given records part w : List ℕ) : Type 0 where
  pub K : ℕ
  pub ground : Ground K m table base n gates given records w
  pub groups : Grouped m table records part
  pub inside : s < n
  pub stages_fit : stages < 4294967296
  pub words_fit : words < 4294967296
  pub cells_fit : cells < 4294967296

pub record Noted (m table base n s stages words cells : ℕ) (gates given records part w w' : List ℕ) : Type 0 where
  pub changes : Changes m table base n w w'
  pub size : ℕ
  pub stored : Stored n s size stages words cells (owned base n w) (owned base n w')
  pub measured : (J : Common) → Shares gates given records J → size ≡ size_for J part

pub record MeasureAt (K m table base n s : ℕ) (gates given records part pl ws cs w : List ℕ) : Type 0 where
  pub ground : Ground K m table base n gates given records w
  pub blank : Blank K pl ws cs
  pub groups : Grouped m table records part
  pub inside : s < n

pub record Measures (rule : WordRule) (K m table base n s : ℕ) (gates given records part pl ws cs w : List ℕ) (a : Result placer.Built Refused) (pl' ws' cs' w' : List ℕ) : Type 0 where
  pub plan : pl' ≡ pl
  pub words : ws' ≡ ws
  pub counts : cs' ≡ cs
  pub changes : Changes m table base n w w'
  pub few : IfOk a (λ b. b.stages ≤ m)
  pub reply : (J : Common) → Places rule K (length pl) gates given records J → told a ≡ rules.reply (built_of J part)
  pub noted : IfOk a (λ b. Noted m table base n s b.stages b.words b.cells gates given records part w w')

-- ---- every slot

pub record OriginalsAt (K m table base : ℕ) (gates given records xs ls pl ws cs w : List ℕ) : Type 0 where
  pub ground : Ground K m table base (length ls) gates given records w
  pub blank : Blank K pl ws cs
  pub all : sum ls ≡ length xs
  pub groups : Grouped m table records xs

-- the partitions of n slots, the empty ones too
unfoldable pub all_held : ℕ → (ls xs o : List ℕ) → List Part
all_held n ls xs o = listed (held n ls xs o) (λ _. true) n 0

-- an answer as the definition has it
unfoldable pub parts_for : Result ℕ RefusedPart → List Part → Parts
parts_for (Err x) ps = bad x.part (number_of x.refused.why) x.refused.stage
parts_for (Ok most) ps = good ps

pub record Given (rule : WordRule) (K m table base : ℕ) (gates given records xs ls pl ws cs w : List ℕ) (r : Result ℕ RefusedPart) (pl' ws' cs' w' : List ℕ) : Type 0 where
  pub plan : pl' ≡ pl
  pub words : ws' ≡ ws
  pub counts : cs' ≡ cs
  pub changes : Changes m table base (length ls) w w'
  pub answer : (J : Common) → Places rule K (length pl) gates given records J
      → original J 0 (split_by ls xs) ≡ parts_for r (all_held (length ls) ls xs (owned base (length ls) w'))
  pub plain : (J : Common) → Places rule K (length pl) gates given records J → IfErr r (λ x. pin_of x.refused.why ≡ 0)
  pub most : IfOk r (λ k. most_stages (all_held (length ls) ls xs (owned base (length ls) w')) 0 ≡ k)
  pub few : IfOk r (λ k. k ≤ m)
