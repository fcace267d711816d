-- Merging into one slot: what its steps find and leave. Assumes nothing.
use Rattle.std.specs.Prelude.{ℕ, ◌+◌, ◌-◌, ◌*◌, ◌<◌, ◌≤◌, max, Bool, true, false, List, [], ◌++◌, ◌≢◌, ◌≡◌, ltb, length, get_or, take}
use Rattle.rules.specs.Lists.{sum, every}
use Rattle.rules.specs.Graph.{pin_count}
use Rattle.rules.specs.Records.{groups_of}
use Rattle.rules.specs.Merge.{Common, size_for, split_by}
use Rattle.checks.specs.Passed.{Passed}
use Rattle.placer_start.specs.Opening.{Idle}
use Rattle.merge_unions.specs.Table.{Located}
use Rattle.merge_unions.specs.Unions.{Shares}
use Rattle.merge_unions.specs.Cones.{Cone, Of, ExtendAt}
use Rattle.merge_slots.specs.Slots.{own, free, held}
use Rattle.merge_slots.specs.Rounds.{Ready}
use Rattle.merge_layout.specs.Layout.{owned}

-- the groups of slot s
abbrev pub groups_at : (ls xs : List ℕ) → ℕ → List ℕ
groups_at ls xs s = get_or (split_by ls xs) s []

-- what every step keeps: a build's numbers idle, then free ones, the table of record starts, and from `base` on the slots' own numbers
pub record Stands (K m table base : ℕ) (gates given records xs ls w : List ℕ) : Type 0 where
  pub sized : Bool
  pub passed : Passed K sized gates given records
  pub pins : m ≡ pin_count gates
  pub idle : Idle m w
  pub located : Located table (groups_of records) records w
  pub inside : every (λ i. ltb i (length (groups_of records))) xs ≡ true
  pub all : sum ls ≡ length xs
  pub short : length xs ≤ 4294967295
  pub few : length ls ≤ 1024
  pub spare : 16 * m + 512 + 8 * length xs ≤ table
  pub behind : table + length (groups_of records) ≤ base
  pub room : base + 8 * length ls ≤ length w

-- the table stays
pub record Stays (m table base : ℕ) (w w' : List ℕ) : Type 0 where
  pub len : length w' ≡ length w
  pub idle : Idle m w'
  pub kept : (j : ℕ) → table ≤ j → j < base → get_or w' j 0 ≡ get_or w j 0

-- ---- ranks

-- every slot from `from` on is barred where none was found
pub record Looked (base c from : ℕ) (w : List ℕ) (r : Bool) : Type 0 where
  pub barred : r ≡ false → (s : ℕ) → from ≤ s → s < c → get_or w (base + (4 * c + s)) 0 ≢ 0

-- what a change of keys leaves while a cone stands
pub record Keeps (table base : ℕ) (w w' : List ℕ) : Type 0 where
  pub len : length w' ≡ length w
  pub kept : (j : ℕ) → table ≤ j → j < base → get_or w' j 0 ≡ get_or w j 0

-- slot s of c has the named groups, and slot i those of the cone
pub record RankAt (x : Of) (m table base c i s n k : ℕ) (gates records names w : List ℕ) : Type 0 where
  pub extend : ExtendAt x m table n k gates records names w
  pub few : c ≤ 1024
  pub behind : table + length (groups_of records) ≤ base
  pub room : base + 8 * c ≤ length w
  pub first : i < c
  pub second : s < c

-- of the slots' own numbers only the keys of slot s changed
pub record SlotRanked (x : Of) (m table base c i s n k : ℕ) (gates records names w w' : List ℕ) : Type 0 where
  pub keeps : Keeps table base w w'
  pub cone : Cone m table n k gates x.given records x.names w'
  pub others : (y : ℕ) → y ≢ 5 * c + s → y ≢ 6 * c + s → get_or (owned base c w') y 0 ≡ get_or (owned base c w) y 0
  pub grows : (J : Common) → Shares gates x.given records J → free c (owned base c w) s ≡ true → own 5 c (owned base c w') s ≡ size_for J (x.names ++ names) - max (own 0 c (owned base c w) i) (own 0 c (owned base c w) s)
  pub union : (J : Common) → Shares gates x.given records J → free c (owned base c w) s ≡ true → own 6 c (owned base c w') s ≡ size_for J (x.names ++ names)

-- the cone of slot i stands, whose groups end at `from`
pub record LaterAt (given : List ℕ) (m table base i from n k : ℕ) (gates records xs ls w : List ℕ) : Type 0 where
  pub cone : Cone m table n k gates given records (groups_at ls xs i) w
  pub inside : every (λ i. ltb i (length (groups_of records))) xs ≡ true
  pub all : sum ls ≡ length xs
  pub short : length xs ≤ 4294967295
  pub few : length ls ≤ 1024
  pub behind : table + length (groups_of records) ≤ base
  pub room : base + 8 * length ls ≤ length w
  pub first : i < length ls
  pub start : from ≡ sum (take (i + 1) ls)

-- only keys changed, and those of the open slots after i and before s stand for their ranks
pub record Keyed (given : List ℕ) (m table base i s n k : ℕ) (gates records xs ls w w' : List ℕ) : Type 0 where
  pub keeps : Keeps table base w w'
  pub cone : Cone m table n k gates given records (groups_at ls xs i) w'
  pub low : (x : ℕ) → x < 5 * length ls → get_or (owned base (length ls) w') x 0 ≡ get_or (owned base (length ls) w) x 0
  pub high : (x : ℕ) → 7 * length ls ≤ x → get_or (owned base (length ls) w') x 0 ≡ get_or (owned base (length ls) w) x 0
  pub ready : (J : Common) → Shares gates given records J → (t : ℕ) → i < t → t < s → free (length ls) (owned base (length ls) w) t ≡ true
      → Ready J (held (length ls) ls xs (owned base (length ls) w) i) (held (length ls) ls xs (owned base (length ls) w)) (length ls) (owned base (length ls) w') t

pub record AllAt (m table base i : ℕ) (gates given records xs ls w : List ℕ) : Type 0 where
  pub K : ℕ
  pub at : Stands K m table base gates given records xs ls w
  pub first : i < length ls

-- only keys changed, and those of the open slots after i stand for their ranks
pub record AllRanked (m table base i : ℕ) (gates given records xs ls w w' : List ℕ) : Type 0 where
  pub stays : Stays m table base w w'
  pub low : (x : ℕ) → x < 5 * length ls → get_or (owned base (length ls) w') x 0 ≡ get_or (owned base (length ls) w) x 0
  pub high : (x : ℕ) → 7 * length ls ≤ x → get_or (owned base (length ls) w') x 0 ≡ get_or (owned base (length ls) w) x 0
  pub ready : (J : Common) → Shares gates given records J → (s : ℕ) → i < s → s < length ls → free (length ls) (owned base (length ls) w) s ≡ true
      → Ready J (held (length ls) ls xs (owned base (length ls) w) i) (held (length ls) ls xs (owned base (length ls) w)) (length ls) (owned base (length ls) w') s
