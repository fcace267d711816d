-- The trial of one union: what it finds and leaves. Assumes nothing.
use Rattle.std.specs.Prelude.{ℕ, ◌+◌, ◌*◌, ◌<◌, ◌≤◌, Result, Ok, Option, Some, None, Bool, true, false, ◌&&◌, eqb, leb, List, ◌++◌, ◌≡◌, length, set}
use Rattle.rules.specs.Lists.{sum}
use Rattle.rules.specs.Traversal.{WordRule}
use Rattle.rules.specs.Build.{reply}
use Rattle.rules.specs.Merge.{Common, built_of, accepted}
use Rattle.placer_start.specs.Opening.{Idle}
use Rattle.placer.specs.declared.Built.{Built}
use Rattle.placer.specs.declared.Refused.{Refused}
use Rattle.placer.specs.Answers.{told}
use Rattle.placer.specs.Build.{Blank}
use Rattle.merge_unions.specs.Unions.{Places}
use Rattle.merge_slots.specs.Moves.{Taken}
use Rattle.merge_slots.specs.Stores.{Joined}
use Rattle.merge_layout.specs.Layout.{owned}
use Rattle.merge_trials.specs.Ranks.{groups_at, Stands, Stays}

pub record BuildAt (K m table i j : ℕ) (gates given records xs ls pl ws cs w : List ℕ) : Type 0 where
  pub base : ℕ
  pub at : Stands K m table base gates given records xs ls w
  pub blank : Blank K pl ws cs
  pub order : i < j
  pub second : j < length ls

-- a union is accepted if it is built, with at most `cap` stages
pub record Accepts (cap : ℕ) (a : Result Built Refused) (r : Option Built) : Type 0 where
  pub none : r ≡ None → (eqb (told a).number 0 && leb (told a).stages cap) ≡ false
  pub some : (b : Built) → r ≡ Some b → (a ≡ Ok b) × (b.stages ≤ cap)

pub record JoinAt (m table base i j stages words cells : ℕ) (xs ls w : List ℕ) : Type 0 where
  pub idle : Idle m w
  pub all : sum ls ≡ length xs
  pub short : length xs ≤ 4294967295
  pub few : length ls ≤ 1024
  pub spare : 16 * m + 512 + 8 * length xs ≤ table
  pub behind : table ≤ base
  pub room : base + 8 * length ls ≤ length w
  pub order : i < j
  pub second : j < length ls
  pub stages_fit : stages < 4294967296
  pub words_fit : words < 4294967296
  pub cells_fit : cells < 4294967296

pub record Joins (m table base i j stages words cells : ℕ) (xs ls w xs' ls' w' : List ℕ) : Type 0 where
  pub taken : Taken i j xs ls xs' ls'
  pub stays : Stays m table base w w'
  pub joined : Joined (length ls) i j stages words cells (owned base (length ls) w) (owned base (length ls) w')

pub record TryAt (K m table base i j cap : ℕ) (gates given records xs ls pl ws cs w : List ℕ) : Type 0 where
  pub at : Stands K m table base gates given records xs ls w
  pub blank : Blank K pl ws cs
  pub order : i < j
  pub second : j < length ls
  pub cap_fits : cap < 262144

-- a union that failed
pub record Barred (base j : ℕ) (xs ls w xs' ls' w' : List ℕ) : Type 0 where
  pub indices : xs' ≡ xs
  pub lengths : ls' ≡ ls
  pub bar : owned base (length ls) w' ≡ set (owned base (length ls) w) (4 * length ls + j) 1

-- one that was taken
pub record Takes (base i j stages words cells : ℕ) (xs ls w xs' ls' w' : List ℕ) : Type 0 where
  pub taken : Taken i j xs ls xs' ls'
  pub joined : Joined (length ls) i j stages words cells (owned base (length ls) w) (owned base (length ls) w')

pub record Tried (rule : WordRule) (K m table base i j cap : ℕ) (gates given records xs ls pl w : List ℕ) (r : Bool) (xs' ls' pl' ws' cs' w' : List ℕ) : Type 0 where
  pub stands : Stands K m table base gates given records xs' ls' w'
  pub blank : Blank K pl' ws' cs'
  pub plan : length pl' ≡ length pl
  pub count : length ls' ≡ length ls
  pub is : (J : Common) → Places rule K (length pl) gates given records J → J.cap ≡ cap → r ≡ accepted J.cap (built_of J (groups_at ls xs i ++ groups_at ls xs j))
  pub no : r ≡ false → Barred base j xs ls w xs' ls' w'
  pub yes : r ≡ true → (J : Common) → Places rule K (length pl) gates given records J
      → Takes base i j (reply (built_of J (groups_at ls xs i ++ groups_at ls xs j))).stages (reply (built_of J (groups_at ls xs i ++ groups_at ls xs j))).words (reply (built_of J (groups_at ls xs i ++ groups_at ls xs j))).cells xs ls w xs' ls' w'
