-- What a call of `depth` or `reserved` answers and leaves. Assumes nothing.
use Rattle.std.specs.Prelude.{ℕ, zero, suc, ◌≤◌, List, leb, length, replicate, Result, Ok, Err}
use Rattle.rules.specs.Lists.{laid_over}
use Rattle.rules.specs.Graph.{graph_of, pin_count}
use Rattle.rules.specs.Records.{groups_of}
use Rattle.rules.specs.Reservation.{memories, duplicates, reserved}
use Rattle.rules.specs.Checks.{work_size, pin_shown, refusal_of}
use Rattle.rules.specs.Depth.{deepest}
use Rattle.refusals.specs.declared.Refusal.{Refusal}
use Rattle.refusals.specs.Numbers.{number_of, pin_of}
use Rattle.checks.specs.Values.{Says}
use Rattle.depth.specs.declared.SetAside.{SetAside}

-- the first of 2, 3, 23, 4, 5 that applies, or 0: a build's checks where height and the other areas are right, 6 being a height
unfoldable pub tell_refusal : (gates given records work : List ℕ) → ℕ
tell_refusal gates given records work = refusal_of 6 (leb (work_size gates records) (length work)) gates given records

-- what the checks say of a call
pub record Said {B : Type 0} (gates given records w : List ℕ) (r : Result B Refusal) : Type 0 where
  pub says : Says (tell_refusal gates given records w) gates r

-- so few pins and record numbers that the counted size fits
pub record SizeAt (gates records : List ℕ) : Type 0 where
  pub pins : pin_count gates ≤ 65536
  pub short : length records ≤ 65536

-- number, what is told, the pin shown (0 unless 23), and the work area
pub record Told (A : Type 0) : Type 0 where
  pub number : ℕ
  pub told : A
  pub pin : ℕ
  pub work : List ℕ

unfoldable pub telling : {A : Type 0} → ℕ → A → ℕ → List ℕ → Told A
telling n x p w = record { number = n; told = x; pin = p; work = w }

-- the whole call, for any value that is told: the work area is 0 as far as it counts; after a refusal another value is told and nothing is changed
unfoldable pub teller : {A : Type 0} → (none some : A) → (gates given records work : List ℕ) → Told A
teller none some gates given records work =
    elim (tell_refusal gates given records work) [
      | zero ↦ telling 0 some 0 (laid_over (replicate (work_size gates records) 0) work)
      | suc n ↦ telling (suc n) none (pin_shown (suc n) gates) work
    ]

-- D, 0 on refusal
unfoldable pub tell_depth : (gates given records work : List ℕ) → Told ℕ
tell_depth gates given records work = teller 0 (deepest (graph_of gates) given (groups_of records)) gates given records work

unfoldable pub outcome : Result ℕ Refusal → List ℕ → Told ℕ
outcome (Ok d) w = telling 0 d 0 w
outcome (Err r) w = telling (number_of r) 0 (pin_of r) w

-- memories, duplicates, and the words set aside for them
pub record Aside : Type 0 where
  pub memories : ℕ
  pub duplicates : ℕ
  pub words : ℕ

-- of the records; 0 each on refusal
unfoldable pub tell_aside : (gates given records work : List ℕ) → Told Aside
tell_aside gates given records work = let gs = groups_of records in teller (record { memories = 0; duplicates = 0; words = 0 }) (record { memories = memories gs; duplicates = duplicates gs; words = reserved gs }) gates given records work

unfoldable pub aside_outcome : Result SetAside Refusal → List ℕ → Told Aside
aside_outcome (Ok a) w = telling 0 (record { memories = a.memories; duplicates = a.duplicates; words = a.words }) 0 w
aside_outcome (Err r) w = telling (number_of r) (record { memories = 0; duplicates = 0; words = 0 }) (pin_of r) w
