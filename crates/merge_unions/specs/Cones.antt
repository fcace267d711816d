-- The cone of some groups: the traversal from their pins, standing in the columns, to be extended and measured. Assumes nothing.
use Rattle.std.specs.Prelude.{◌≡◌, Bool, false, List, [], ◌∷◌, ◌++◌, reverse, ℕ, ◌+◌, ◌*◌, ◌<◌, ◌≤◌, length, get_or}
use Rattle.rules.specs.Lists.{In}
use Rattle.rules.specs.Graph.{graph_of, pin_count}
use Rattle.rules.specs.Records.{groups_of, waiting_of}
use Rattle.rules.specs.Traversal.{traverse}
use Rattle.rules.specs.Merge.{Common, size_for}
use Rattle.checks.specs.Passed.{Passed}
use Rattle.columns.specs.Fields.{ORDER, DONE, WAITING, LISTED, STACK, PHASE, PLACE, RECORDS}
use Rattle.columns.specs.Area.{Room, Frame, among}
use Rattle.columns.specs.Lists.{Marks, Marked, Placed}
use Rattle.placer_start.specs.Opening.{Idle}
use Rattle.merge_unions.specs.Table.{Located}
use Rattle.merge_unions.specs.Names.{picked}
use Rattle.merge_unions.specs.Unions.{Shares}

-- records and graph passed the checks, and each record's start stands in the table behind a build's numbers
pub record Ground (m table : ℕ) (gates given records w : List ℕ) : Type 0 where
  pub K : ℕ
  pub sized : Bool
  pub passed : Passed K sized gates given records
  pub pins : m ≡ pin_count gates
  pub located : Located table (groups_of records) records w
  pub behind : 16 * m + RECORDS ≤ table

-- the columns that a cone stands in
abbrev pub walks : List ℕ
walks = DONE ∷ WAITING ∷ PLACE ∷ ORDER ∷ LISTED ∷ STACK ∷ PHASE ∷ []

-- the others, and the tail, are as in an idle area
pub record Apart (m : ℕ) (w : List ℕ) : Type 0 where
  pub before : List ℕ
  pub idle : Idle m before
  pub cells : (f : ℕ) → among walks f ≡ false → f < 16 → (p : ℕ) → p < m → get_or w (f * m + p) 0 ≡ get_or before (f * m + p) 0
  pub tail : (j : ℕ) → j < RECORDS → get_or w (16 * m + j) 0 ≡ 0

-- the pins that wait for named groups, and the order that is traversed from them
unfoldable pub waits : (records names : List ℕ) → List ℕ
waits records names = waiting_of (picked (groups_of records) names) []

unfoldable pub lists : (gates given records names : List ℕ) → List ℕ
lists gates given records names = reverse (traverse (length (graph_of gates)) (graph_of gates) given (waits records names))

-- n pins wait, and k are listed
pub record Cone (m table n k : ℕ) (gates given records names w : List ℕ) : Type 0 where
  pub ground : Ground m table gates given records w
  pub area : Room m w
  pub done : Marks DONE m given w
  pub waiting : Placed WAITING PLACE m n (waits records names) w
  pub listed : Marked ORDER LISTED m k (lists gates given records names) w
  pub apart : Apart m w

-- what is known of a cone and the code does not hold
pub record Of : Type 0 where
  pub given : List ℕ
  pub names : List ℕ

pub record ConeAt (m table : ℕ) (gates given records names w : List ℕ) : Type 0 where
  pub ground : Ground m table gates given records w
  pub idle : Idle m w
  pub inside : (i : ℕ) → In i names → i < length (groups_of records)

pub record Coned (m table : ℕ) (gates given records names w : List ℕ) (n k : ℕ) (w' : List ℕ) : Type 0 where
  pub frame : Frame walks m w w'
  pub cone : Cone m table n k gates given records names w'

pub record ExtendAt (x : Of) (m table n k : ℕ) (gates records names w : List ℕ) : Type 0 where
  pub cone : Cone m table n k gates x.given records x.names w
  pub inside : (i : ℕ) → In i names → i < length (groups_of records)

pub record Extended (x : Of) (m table : ℕ) (gates records names w : List ℕ) (n k : ℕ) (w' : List ℕ) : Type 0 where
  pub frame : Frame walks m w w'
  pub cone : Cone m table n k gates x.given records (x.names ++ names) w'

-- the size of the cone's groups with others; the cone is as before
pub record Measures (x : Of) (m table n k : ℕ) (gates records names w : List ℕ) (r : ℕ) (w' : List ℕ) : Type 0 where
  pub frame : Frame walks m w w'
  pub cone : Cone m table n k gates x.given records x.names w'
  pub size : (J : Common) → Shares gates x.given records J → r ≡ size_for J (x.names ++ names)
  pub few : r ≤ m
