-- What a build has before its first stage. Assumes nothing.
use Rattle.std.specs.Prelude.{◌≡◌, Option, Some, None, List, [], ◌∷◌, ℕ, ◌+◌, ◌*◌, ◌<◌, ◌≤◌, length, get_or}
use Rattle.rules.specs.Cells.{word_limit}
use Rattle.rules.specs.Records.{Group, waiting_of}
use Rattle.rules.specs.Lists.{In}
use Rattle.columns.specs.Fields.{DONE, WAITING, CELLS, RANKED, PLACE, MARK, TAIL, RECORDS}
use Rattle.columns.specs.Area.{Room, Frame}
use Rattle.columns.specs.Lists.{Marks, Clear, Placed}
use Rattle.stage_walk.specs.Stands.{Fresh}
use Rattle.placer_start.specs.declared.Opening.{Opening}
use Rattle.placer_start.specs.Waiting.{Readable}
use Rattle.placer_start.specs.Reservation.{reservation_of}

-- all that counts of the area is 0
pub record BeginAt (m : ℕ) (given records w : List ℕ) : Type 0 where
  pub area : Room m w
  pub room : 16 * m + RECORDS + 8 * length records ≤ length w
  pub zeros : (j : ℕ) → j < 16 * m + RECORDS + 8 * length records → get_or w j 0 ≡ 0
  pub right : Readable m records
  pub given_named : (q : ℕ) → In q given → q < m

-- what a build finds 0: all that it reads before it writes
pub record Idle (m : ℕ) (w : List ℕ) : Type 0 where
  pub area : Room m w
  pub done : Clear DONE m w
  pub heads : Clear RANKED m w
  pub places : Clear PLACE m w
  pub fresh : Fresh m w
  pub cells : Clear CELLS m w
  pub marks : Clear MARK m w
  pub zeros : (j : ℕ) → j < RECORDS → get_or w (16 * m + j) 0 ≡ 0

-- a build with these given pins may begin
pub record Opens (m : ℕ) (given w : List ℕ) : Type 0 where
  pub idle : Idle m w
  pub given_named : (q : ℕ) → In q given → q < m

unfoldable pub reservation_for : Option Opening → Option ℕ
reservation_for None = None
reservation_for (Some o) = Some (o.words)

-- what changes: these columns, and in the tail the numbers that serve the records
abbrev pub opened : List ℕ
opened = DONE ∷ WAITING ∷ RANKED ∷ PLACE ∷ TAIL ∷ []

-- what the first stage starts from, with n pins waiting for some groups. Columns that a stage fills before it reads them may hold anything
pub record First (m n : ℕ) (given : List ℕ) (gs : List Group) (w : List ℕ) : Type 0 where
  pub area : Room m w
  pub done : Marks DONE m given w
  pub waiting : Placed WAITING PLACE m n (waiting_of gs []) w
  pub fresh : Fresh m w
  pub cells : Clear CELLS m w
  pub marks : Clear MARK m w
  pub zeros : (j : ℕ) → j < RECORDS → get_or w (16 * m + j) 0 ≡ 0

-- nothing from `far` on changed
pub record Begins (m limit far : ℕ) (given : List ℕ) (gs : List Group) (w : List ℕ) (r : Option Opening) (w' : List ℕ) : Type 0 where
  pub frame : Frame opened m w w'
  pub past : (j : ℕ) → far ≤ j → get_or w' j 0 ≡ get_or w j 0
  pub answer : (K : ℕ) → limit ≡ word_limit K → reservation_for r ≡ reservation_of K gs
  pub first : (o : Opening) → r ≡ Some o → First m o.waiting given gs w'
