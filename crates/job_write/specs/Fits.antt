-- Does a job fit a file, but for the file's length? Assumes nothing.
use Rattle.std.specs.Prelude.{◌≡◌, true, false, Option, Some, None, List, ℕ, ◌+◌, ◌<◌, ◌≤◌, length, drop}
use Rattle.rules.specs.Records.{Group, Groups?, unreadable, groups, read, groups_of}
use Rattle.rules.specs.Job.{Job, groups_fit, fits_program}
use Rattle.rules.specs.Inside.Files.{Held}

-- how many groups, if they are readable and fit
unfoldable pub counted : Groups? → Option ℕ
counted unreadable = None
counted (groups xs) = elim (groups_fit xs) [ true ↦ Some (length xs) | false ↦ None ]

-- with n groups before
unfoldable pub behind : ℕ → Option ℕ → Option ℕ
behind n None = None
behind n (Some m) = Some (n + m)

-- the record at an index fits, and has so many numbers
pub record RecordFits (xs : List ℕ) (at r : ℕ) : Type 0 where
  pub some : 0 < r
  pub is : counted (read (drop at xs)) ≡ behind 1 (counted (read (drop (at + r) xs)))
  pub inside : at + r ≤ length xs

abbrev pub RecordIs : List ℕ → ℕ → Option ℕ → Type 0
RecordIs xs at None = counted (read (drop at xs)) ≡ None
RecordIs xs at (Some r) = RecordFits xs at r

-- a job that fits, with its n groups
pub record Fitting (J : Job) (n : ℕ) : Type 0 where
  pub held : Held J (groups_of J.records)
  pub fits : fits_program J ≡ true
  pub count : length (groups_of J.records) ≡ n

abbrev pub Judged : Job → Option ℕ → Type 0
Judged J None = (gs : List Group) → Held J gs → fits_program J ≡ true → ⊥
Judged J (Some n) = Fitting J n
