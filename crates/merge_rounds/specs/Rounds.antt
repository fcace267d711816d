-- Merging, slot by slot: what a round, the rounds of a slot and all slots find and leave. Assumes nothing.
use Rattle.std.specs.Prelude.{ℕ, suc, ◌+◌, ◌-◌, ◌*◌, ◌<◌, ◌≤◌, Bool, true, false, List, [], ◌≢◌, ◌≡◌, length}
use Rattle.rules.specs.Traversal.{WordRule}
use Rattle.rules.specs.Merge.{Common, Part, none, some, rounds, Result, merging, add_part}
use Rattle.placer.specs.Build.{Blank}
use Rattle.merge_unions.specs.Unions.{Shares, Places}
use Rattle.merge_slots.specs.Slots.{gathered, listed, free, but, full, held}
use Rattle.merge_slots.specs.Rounds.{Ready}
use Rattle.merge_slots.specs.Rounds.{Bars, goes, Merging}
use Rattle.merge_layout.specs.Layout.{owned}
use Rattle.merge_trials.specs.Ranks.{Stands}
use Rattle.merge_rounds.specs.declared.Course.{Course}
use Rattle.merge_rounds.specs.declared.Outcome.{Outcome}

-- the partitions in the slots
abbrev pub parts_in : ℕ → (xs ls w : List ℕ) → ℕ → Part
parts_in base xs ls w = held (length ls) ls xs (owned base (length ls) w)

-- the slots that are not barred
abbrev pub opens_in : ℕ → (ls w : List ℕ) → ℕ → Bool
opens_in base ls w = free (length ls) (owned base (length ls) w)

-- a merge in these areas, with this cap
pub record Tries (rule : WordRule) (K size cap : ℕ) (gates given records : List ℕ) (J : Common) : Type 0 where
  pub places : Places rule K size gates given records J
  pub cap_same : J.cap ≡ cap

-- what every call leaves as it was
pub record Keeps (K m table base : ℕ) (gates given records ls pl : List ℕ) (xs' ls' pl' ws' cs' w' : List ℕ) : Type 0 where
  pub stands : Stands K m table base gates given records xs' ls' w'
  pub blank : Blank K pl' ws' cs'
  pub plan : length pl' ≡ length pl
  pub count : length ls' ≡ length ls

-- ---- a round for slot i

pub record RoundAt (K m table base i cap ranks trials : ℕ) (gates given records xs ls pl ws cs w : List ℕ) : Type 0 where
  pub at : Stands K m table base gates given records xs ls w
  pub blank : Blank K pl ws cs
  pub first : i < length ls
  pub full_first : full ls i ≡ true
  pub cap_fits : cap < 262144
  pub trials_fit : trials + ranks ≤ 4294967295
  pub ready : (J : Common) → Shares gates given records J → (s : ℕ) → i < s → s < length ls → opens_in base ls w s ≡ true
      → Ready J (parts_in base xs ls w i) (parts_in base xs ls w) (length ls) (owned base (length ls) w) s

-- what the definition's round comes to, from the slots as they are found
pub record Fails (rule : WordRule) (K size base i cap ranks trials t : ℕ) (gates given records xs ls w xs' ls' w' : List ℕ) : Type 0 where
  pub indices : xs' ≡ xs
  pub lengths : ls' ≡ ls
  pub parts : (s : ℕ) → s < length ls → parts_in base xs ls w' s ≡ parts_in base xs ls w s
  pub few : t ≤ trials + ranks
  pub is : (J : Common) → Tries rule K size cap gates given records J → (barred : List ℕ) → Bars (full ls) (opens_in base ls w) (length ls - suc i) (suc i) barred
      → (barred' : List ℕ) × (goes J (parts_in base xs ls w i) (parts_in base xs ls w) (length ls - suc i) (suc i) (opens_in base ls w) ranks barred trials ≡ none barred' t)

-- slot i is the union, slot j is empty, the others are as they were
pub record Wins (rule : WordRule) (K size base i cap ranks trials t : ℕ) (gates given records xs ls w xs' ls' w' : List ℕ) : Type 0 where
  pub j : ℕ
  pub order : i < j
  pub inside : j < length ls
  pub fulls : (s : ℕ) → full ls' s ≡ but j (full ls) s
  pub parts : (s : ℕ) → s < length ls → s ≢ i → s ≢ j → parts_in base xs' ls' w' s ≡ parts_in base xs ls w s
  pub few : t ≤ trials + ranks
  pub is : (J : Common) → Tries rule K size cap gates given records J → (barred : List ℕ) → Bars (full ls) (opens_in base ls w) (length ls - suc i) (suc i) barred
      → (barred' : List ℕ) × (Bars (full ls') (opens_in base ls' w') (length ls - suc i) (suc i) barred')
      × (goes J (parts_in base xs ls w i) (parts_in base xs ls w) (length ls - suc i) (suc i) (opens_in base ls w) ranks barred trials ≡ some j (parts_in base xs' ls' w' i) barred' t)

pub record Rounded (rule : WordRule) (K m table base i cap ranks trials : ℕ) (gates given records xs ls pl w : List ℕ) (r : Outcome) (xs' ls' pl' ws' cs' w' : List ℕ) : Type 0 where
  pub keeps : Keeps K m table base gates given records ls pl xs' ls' pl' ws' cs' w'
  pub no : r.taken ≡ false → Fails rule K (length pl) base i cap ranks trials r.trials gates given records xs ls w xs' ls' w'
  pub yes : r.taken ≡ true → Wins rule K (length pl) base i cap ranks trials r.trials gates given records xs ls w xs' ls' w'

-- ---- the rounds of slot i

pub record IntoAt (K m table base i cap ranks fuel trials : ℕ) (gates given records xs ls pl ws cs w : List ℕ) : Type 0 where
  pub at : Stands K m table base gates given records xs ls w
  pub blank : Blank K pl ws cs
  pub first : i < length ls
  pub full_first : full ls i ≡ true
  pub cap_fits : cap < 262144
  pub few : ranks ≤ 260
  pub trials_fit : trials + 260 * fuel ≤ 4294967295
  pub opens : (s : ℕ) → i < s → s < length ls → opens_in base ls w s ≡ full ls s

pub record Into (rule : WordRule) (K m table base i cap ranks fuel trials : ℕ) (gates given records xs ls pl w : List ℕ) (r : ℕ) (xs' ls' pl' ws' cs' w' : List ℕ) : Type 0 where
  pub keeps : Keeps K m table base gates given records ls pl xs' ls' pl' ws' cs' w'
  pub few : r ≤ trials + 260 * fuel
  pub still : full ls' i ≡ true
  pub lower : (s : ℕ) → s < i → full ls' s ≡ full ls s
  pub kept : (s : ℕ) → s < i → parts_in base xs' ls' w' s ≡ parts_in base xs ls w s
  pub is : (J : Common) → Tries rule K (length pl) cap gates given records J → J.ranks ≡ ranks
      → rounds J fuel (parts_in base xs ls w i) (listed (parts_in base xs ls w) (full ls) (length ls - suc i) (suc i)) [] trials
      ≡ record { part = parts_in base xs' ls' w' i; later = listed (parts_in base xs' ls' w') (full ls') (length ls - suc i) (suc i); trials = r }

-- ---- all slots: each has 1024 rounds of 260 ranks at most

pub record SlotAt (K m table base i cap ranks fuel trials : ℕ) (gates given records xs ls pl ws cs w : List ℕ) : Type 0 where
  pub at : Stands K m table base gates given records xs ls w
  pub blank : Blank K pl ws cs
  pub first : i < length ls
  pub cap_fits : cap < 262144
  pub few : ranks ≤ 260
  pub fuel_few : fuel ≤ 1024
  pub trials_fit : trials + 266240 * fuel ≤ 4294967295
  pub enough : length ls ≤ i + fuel

pub record Stepped (rule : WordRule) (K m table base i cap ranks fuel trials : ℕ) (gates given records xs ls pl w : List ℕ) (r : Course) (xs' ls' pl' ws' cs' w' : List ℕ) : Type 0 where
  pub keeps : Keeps K m table base gates given records ls pl xs' ls' pl' ws' cs' w'
  pub fuel_few : r.fuel ≤ fuel
  pub few : r.trials + 266240 * r.fuel ≤ trials + 266240 * fuel
  pub enough : length ls ≤ i + 1 + r.fuel
  pub is : (J : Common) → Tries rule K (length pl) cap gates given records J → J.ranks ≡ ranks → (whole : Result)
      → Merging J (length ls) whole (parts_in base xs ls w) (full ls) i fuel trials → Merging J (length ls) whole (parts_in base xs' ls' w') (full ls') (i + 1) r.fuel r.trials

pub record SlotsAt (K m table base cap ranks : ℕ) (gates given records xs ls pl ws cs w : List ℕ) : Type 0 where
  pub at : Stands K m table base gates given records xs ls w
  pub blank : Blank K pl ws cs
  pub cap_fits : cap < 262144
  pub few : ranks ≤ 260

pub record Slotted (rule : WordRule) (K m table base cap ranks : ℕ) (gates given records xs ls pl w : List ℕ) (r : ℕ) (xs' ls' pl' ws' cs' w' : List ℕ) : Type 0 where
  pub keeps : Keeps K m table base gates given records ls pl xs' ls' pl' ws' cs' w'
  pub is : (J : Common) → Tries rule K (length pl) cap gates given records J → J.ranks ≡ ranks
      → merging J (length ls) (listed (parts_in base xs ls w) (full ls) (length ls) 0) 0 ≡ record { parts = gathered add_part (parts_in base xs' ls' w') (full ls') (length ls) 0; trials = r }
